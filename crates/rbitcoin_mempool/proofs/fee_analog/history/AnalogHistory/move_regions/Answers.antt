-- `fee_analog::history::AnalogHistory::move_regions` meets its contract. The loop's invariant: the first d regions are moved. Assumes nothing.
use Rattle.std.proofs.Common.{◌≡◌, ◌+◌, ◌*◌, ◌≤◌, length, ◌∙◌, arith}
use Rattle.slices.proofs.Runs.{copied}
use Rattle.rbitcoin_mempool.proofs.Regions.{each_more, each_none, region}
use Rattle.rbitcoin_mempool.proofs.fee_analog.history.AnalogHistory.move_regions.Goals as goal

pub loop-d-init : goal.loop-d-init
loop-d-init c = record { befores = each_none _ _; aheads = each_none _ _ }

pub loop-d-preserved : goal.loop-d-preserved
loop-d-preserved c =
    let l = c.loop-d in
    let s = c.args.self.now in
    let v = c.requires.valid in
    let lies : l.d * s.capacity + s.capacity ≤ s.tracked * s.capacity = region l.d s.tracked s.capacity c.loop-d-test.true in
    let b : length l.befores ≡ length c.args.befores.now = l.auto.befores in
    let a : length l.aheads ≡ length c.args.aheads.now = l.auto.aheads in
    record {
      befores = each_more _ l.befores _ _ l.d l.invariant.befores (c.copy_within.ensures ∙ copied l.befores _ _ _ (omega arith) (omega arith));
      aheads = each_more _ l.aheads _ _ l.d l.invariant.aheads (c.copy_within-in-loop-d.ensures ∙ copied l.aheads _ _ _ (omega arith) (omega arith));
    }
