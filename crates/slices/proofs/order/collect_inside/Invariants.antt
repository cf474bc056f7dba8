-- `slices::order::collect_inside` meets its contract. The loop's invariant is `Collecting` of proofs/Between.antt. Assumes nothing.
use Rattle.slices.proofs.Between.{Collecting}
use Rattle.slices.proofs.order.collect_inside.Given as goal

abbrev pub invariant-loop-x : goal.invariant-loop-x
invariant-loop-x l = Collecting l.span.lo l.span.hi l.xs l.initial.out l.out l.n l.x-index
