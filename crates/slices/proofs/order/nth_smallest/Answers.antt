-- `slices::order::nth_smallest` meets its contract: past the end of the sorted list stands 0. Assumes nothing.
use Rattle.std.proofs.Common.{sym, arith}
use lib.ListN.{get_or-eq_default}
use Rattle.slices.specs.Sorted.{sorted}
use Rattle.slices.proofs.Sorting.{sorted-length}
use Rattle.slices.proofs.order.nth_smallest.Goals as goal

pub returns-then-n-k : goal.returns-then-n-k
returns-then-n-k c = sym (get_or-eq_default (sorted c.args.xs.now) 0 {n = c.args.k} (omega (arith, sorted-length c.args.xs.now, c.if-n-k.true)))
