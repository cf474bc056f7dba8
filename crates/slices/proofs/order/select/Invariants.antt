-- `slices::order::select` meets its contract. The loop's invariant is `Bracket` of `proofs/Bracket.antt`, the measure hi - lo. Assumes nothing.
use Rattle.std.proofs.Common.{◌-◌}
use Rattle.slices.proofs.Bracket.{Bracket}
use Rattle.slices.proofs.order.select.Given as goal

abbrev pub invariant-loop-span : goal.invariant-loop-span
invariant-loop-span l = Bracket l.xs l.k l.span.0 l.span.1.0 l.under l.upto

abbrev pub decreases-loop-span : goal.decreases-loop-span
decreases-loop-span l = l.span.1.0 - l.span.0
