-- `fee_analog::nearest::count_below` meets its contract. Assumes nothing.
use Rattle.std.proofs.Common.{◌≡◌, suc, ◌-◌, sym, ap, ◌∙◌, arith}
use Rattle.slices.specs.Sorted.{below}
use Rattle.slices.proofs.Tallies.{none_below, below_suc}
use Rattle.rbitcoin_mempool.proofs.fee_analog.nearest.count_below.Goals as goal

pub returns-then-v-eq0 : goal.returns-then-v-eq0
returns-then-v-eq0 c = sym (ap (λ v. below v c.args.xs.now) c.if-v-eq0.true ∙ none_below c.args.xs.now)

pub returns : goal.returns
returns c =
    let e : suc (c.args.v - 1) ≡ c.args.v = omega arith in
    c.count_at_most.ensures ∙ sym (below_suc (c.args.v - 1) c.args.xs.now) ∙ ap (λ v. below v c.args.xs.now) e
