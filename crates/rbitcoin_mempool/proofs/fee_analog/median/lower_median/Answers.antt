-- `fee_analog::median::lower_median` meets its contract. Assumes nothing.
use Rattle.std.proofs.Common.{ap, ◌∙◌, rules}
use Rattle.rbitcoin_mempool.specs.Answer.{rate}
use Rattle.rbitcoin_mempool.proofs.Medians.{median-none, median-some}
use Rattle.rbitcoin_mempool.proofs.fee_analog.median.lower_median.Goals as goal

pub returns-then-is_empty : goal.returns-then-is_empty
returns-then-is_empty c = median-none c.args.values.now (search rules)

pub returns : goal.returns
returns c = ap rate c.median_of.ensures ∙ median-some c.args.values.now (λ e. search rules)
