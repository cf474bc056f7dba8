-- `fee_analog::nearest::collect_nearest` meets its contract. The loop's invariant is `Left` of proofs/Cuts.antt. Assumes nothing.
use Rattle.std.proofs.Common.{◌-◌, length, ap, inl, inr, ⊎_elim, arith}
use Rattle.rbitcoin_mempool.proofs.Cuts.{below_room, leave, left_end, left_start, level_room, take-below, take_level}
use Rattle.rbitcoin_mempool.proofs.fee_analog.nearest.collect_nearest.Goals as goal

pub loop-distance-init : goal.loop-distance-init
loop-distance-init c = left_start c.args.distances.now _ c.args.outcomes.now _ c.args.cut c.args.out.now _ (cc) (cc) (ap (λ n. length c.args.out.now - n) c.count_below.ensures)

pub offset_bounds-out-n : goal.offset_bounds-out-n
offset_bounds-out-n c =
    let s = c.in-Some.ensures.steps in
    omega (arith, below_room c.requires.cut c.requires.as_many c.loop-distance.invariant s.0 s.1 c.if-distance-cut.true)

pub bounds-out-n : goal.bounds-out-n
bounds-out-n c =
    let s = c.in-Some.ensures.steps in below_room c.requires.cut c.requires.as_many c.loop-distance.invariant s.0 s.1 c.if-distance-cut.true

pub overflow_add-n : goal.overflow_add-n
overflow_add-n c =
    let s = c.in-Some.ensures.steps in
    omega (arith, below_room c.requires.cut c.requires.as_many c.loop-distance.invariant s.0 s.1 c.if-distance-cut.true)

pub loop-distance-preserved-then-distance-cut : goal.loop-distance-preserved-then-distance-cut
loop-distance-preserved-then-distance-cut c =
    let s = c.in-Some.ensures.steps in take-below c.requires.cut c.requires.as_many c.loop-distance.invariant s.0 s.1 c.if-distance-cut.true

pub offset_bounds-out-n-then-at_cut-gt0 : goal.offset_bounds-out-n-then-at_cut-gt0
offset_bounds-out-n-then-at_cut-gt0 c =
    let s = c.in-Some.ensures.steps in
    omega (arith, level_room c.requires.cut c.requires.as_many c.loop-distance.invariant s.0 s.1 c.if-at_cut-gt0.true)

pub bounds-out-n-then-at_cut-gt0 : goal.bounds-out-n-then-at_cut-gt0
bounds-out-n-then-at_cut-gt0 c =
    let s = c.in-Some.ensures.steps in level_room c.requires.cut c.requires.as_many c.loop-distance.invariant s.0 s.1 c.if-at_cut-gt0.true

pub overflow_add-n-then-at_cut-gt0 : goal.overflow_add-n-then-at_cut-gt0
overflow_add-n-then-at_cut-gt0 c =
    let s = c.in-Some.ensures.steps in
    omega (arith, level_room c.requires.cut c.requires.as_many c.loop-distance.invariant s.0 s.1 c.if-at_cut-gt0.true)

pub loop-distance-preserved-then-at_cut-gt0 : goal.loop-distance-preserved-then-at_cut-gt0
loop-distance-preserved-then-at_cut-gt0 c =
    let s = c.in-Some.ensures.steps in
    take_level c.requires.cut c.requires.as_many c.loop-distance.invariant s.0 s.1 c.if-distance-cut-2.true c.if-at_cut-gt0.true

pub loop-distance-preserved : goal.loop-distance-preserved
loop-distance-preserved c =
    let s = c.in-Some.ensures.steps in
    leave c.requires.cut c.requires.as_many c.loop-distance.invariant s.0 s.1 (λ h. omega arith) (λ e. grind arith)

pub returns : goal.returns
returns c =
    left_end c.requires.cut c.requires.as_many c.loop-distance.invariant (⊎_elim (λ x. inl x.1.0) (λ x. inr x.1.0) c.in-None.ensures.steps)
