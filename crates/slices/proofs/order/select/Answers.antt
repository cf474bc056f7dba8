-- `slices::order::select` meets its contract. The loop's invariant is `Bracket` of `proofs/Bracket.antt`, the measure hi - lo. Assumes nothing.
use Rattle.std.proofs.Common.{◌∙◌, zero-le, arith}
use Rattle.slices.proofs.Bracket.{bracket, lower-half, upper-half, chosen, left}
use Rattle.slices.proofs.order.select.Goals as goal

pub loop-span-init : goal.loop-span-init
loop-span-init c =
    bracket c.args.xs.now c.args.k 0 18446744073709551615 c.requires (λ j r. zero-le) (λ j r. omega (arith, c.type_inv.xs j)) (omega arith)

pub select_inside-requires : goal.select_inside-requires
select_inside-requires c = omega (arith, left _ _ _ _ _ _ c.loop-span.invariant (omega arith))

pub returns-then-upto-under-le-FEW : goal.returns-then-upto-under-le-FEW
returns-then-upto-under-le-FEW c = c.select_inside.ensures ∙ chosen _ _ _ _ _ _ c.loop-span.invariant (omega arith)

pub loop-span-preserved-then-k-n : goal.loop-span-preserved-then-k-n
loop-span-preserved-then-k-n c =
    lower-half _ _ _ _ _ _ c.loop-span.invariant c.pivot-mid.result c.count_at_most-n.result c.pivot-mid.ensures.1 c.count_at_most-n.ensures c.if-k-n.true

pub loop-span-preserved : goal.loop-span-preserved
loop-span-preserved c =
    upper-half _ _ _ _ _ _ c.loop-span.invariant c.pivot-mid.result c.count_at_most-n.result c.requires c.count_at_most-n.ensures c.if-k-n.false
