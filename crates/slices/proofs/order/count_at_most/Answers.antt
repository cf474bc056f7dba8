-- `slices::order::count_at_most` meets its contract. The loop's invariant: those so far are counted. Assumes nothing.
use Rattle.std.proofs.Common.{leb, arith, le-leb, refl}
use Rattle.slices.specs.Sorted.{tally}
use borrow.Author.Tests.{lt-leb}
use Rattle.slices.proofs.Tallies.{take-yes, take_no}
use Rattle.slices.proofs.order.count_at_most.Goals as goal
use Rattle.slices.proofs.order.count_at_most.Goals.{then-x-v, else-x-v}

pub loop-x-init : goal.loop-x-init
unfolding tally
loop-x-init c = (omega arith, refl)

pub loop-x-preserved : goal.loop-x-preserved
loop-x-preserved c =
    elim c.if-x-v.branch [
      | then-x-v w ↦ omega (arith, take-yes (λ x. leb x c.args.v) c.args.xs.now c.loop-x.x-index (omega arith) (le-leb _ _ w.if-x-v.true))
      | else-x-v w ↦ omega (arith, take_no (λ x. leb x c.args.v) c.args.xs.now c.loop-x.x-index (omega arith) (lt-leb _ _ w.if-x-v.false))
    ]
