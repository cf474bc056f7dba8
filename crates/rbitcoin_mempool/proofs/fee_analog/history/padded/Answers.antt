-- `fee_analog::history::padded` meets its contract. Assumes nothing.
use Rattle.std.proofs.Common.{◌≡◌, refl, rules, zero-le}
use Rattle.std.specs.Prelude.{slice_index}
use Rattle.slices.proofs.Lists.{tabulate-is}
use Rattle.rbitcoin_mempool.proofs.Padding.{gives}
use Rattle.rbitcoin_mempool.proofs.fee_analog.history.padded.Goals as goal

pub returns : goal.returns
returns c =
    let made = c.from_fn.ensures.items in
    tabulate-is _ 0 16 _ made.long
    (λ k r. gives _ (λ p. p.0.now ≡ c.args.targets.now) (slice_index c.args.targets.now) 0 (λ p q i y a w. (search rules, search rules)) _ _ 0 16 refl made.each k zero-le r)
