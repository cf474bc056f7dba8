-- `slices::order::collect_inside` meets its contract. The loop's invariant is `Collecting` of proofs/Between.antt. Assumes nothing.
use Rattle.std.proofs.Common.{sym, ◌∙◌, arith}
use Rattle.slices.proofs.Between.{collect_in, collect-past, collect-count, collect_end}
use Rattle.slices.proofs.order.collect_inside.Goals as goal
use Rattle.slices.proofs.order.collect_inside.Goals.{then-contains, else-contains}

pub loop-x-preserved : goal.loop-x-preserved
loop-x-preserved c =
    let e = c.contains.ensures in
    elim c.if-contains.branch [
      | then-contains w ↦ rw w.n-is (collect_in _ _ _ _ _ _ _ c.loop-x.invariant c.requires (omega arith) (sym e ∙ w.if-contains.true))
      | else-contains w ↦ rw w.n-is (collect-past _ _ _ _ _ _ _ c.loop-x.invariant c.requires (omega arith) (sym e ∙ w.if-contains.false))
    ]

pub returns : goal.returns
returns c = record {
  value = collect-count _ _ _ _ _ _ _ c.loop-x.invariant (omega arith);
  out_after = collect_end _ _ _ _ _ _ _ c.loop-x.invariant (omega arith);
}
