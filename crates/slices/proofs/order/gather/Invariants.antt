-- `slices::order::gather` is safe and ends. The loop's invariant: at most as many are kept as there are places. Assumes nothing.
use Rattle.std.proofs.Common.{◌≡◌, ◌≤◌, length}
use Rattle.slices.proofs.order.gather.Given as goal

abbrev pub invariant-loop-chunk : goal.invariant-loop-chunk
invariant-loop-chunk l = (l.n ≤ length l.out) × (length l.out ≡ length l.initial.out)
