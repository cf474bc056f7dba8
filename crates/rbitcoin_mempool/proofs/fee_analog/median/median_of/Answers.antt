-- `fee_analog::median::median_of` meets its contract. Assumes nothing.
use Rattle.std.proofs.Common.{◌∙◌, arith}
use Rattle.rbitcoin_mempool.specs.Median.{median_of}
use Rattle.rbitcoin_mempool.proofs.Medians.{median-three}
use Rattle.rbitcoin_mempool.proofs.fee_analog.median.median_of.Goals as goal

pub returns-in-len3 : goal.returns-in-len3
returns-in-len3 c = c.middle_of_three.ensures ∙ median-three c.args.values.now (omega arith)

pub returns : goal.returns
unfolding median_of
returns c = cc
