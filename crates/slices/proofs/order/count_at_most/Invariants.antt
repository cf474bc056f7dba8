-- `slices::order::count_at_most` meets its contract. The loop's invariant: those so far are counted. Assumes nothing.
use Rattle.std.proofs.Common.{◌≡◌, ◌≤◌, take}
use Rattle.slices.specs.Sorted.{at_most}
use Rattle.slices.proofs.order.count_at_most.Given as goal

abbrev pub invariant-loop-x : goal.invariant-loop-x
invariant-loop-x l = (l.n ≤ l.x-index) × (l.n ≡ at_most l.v (take l.x-index l.xs))
