-- `num::wide::digit` meets its contract, by `proofs/WideDigit.antt`. The loop keeps a `Trial`, and the trial digit falls. Assumes nothing.
use Rattle.std.proofs.Common.{◌+◌, ◌*◌, ◌/◌, ◌%◌, ◌^◌, ◌≤◌, div-add-mod', arith}
use Rattle.num.proofs.WideDigit.{first, product-fits, factor-above-zero, again, done}
use Rattle.num.proofs.wide.digit.Goals as goal
use Rattle.num.proofs.wide.digit.Goals.{else-loop-left-test, then-loop-left-test+then-q-lower}

pub loop-left-init : goal.loop-left-init
loop-left-init c = first _ _ _ _ (omega arith) (omega arith) (omega arith) (omega arith)

pub overflow_mul-q : goal.overflow_mul-q
overflow_mul-q c = record { fits = product-fits c.loop-left.invariant.small (omega arith) }

pub overflow_mul-left : goal.overflow_mul-left
overflow_mul-left c = omega arith

pub overflow_add-left : goal.overflow_add-left
overflow_add-left c = omega arith

pub overflow_sub-q : goal.overflow_sub-q
overflow_sub-q c = factor-above-zero _ _ c.if-q-lower.false

pub overflow_add-left-in-loop-left : goal.overflow_add-left-in-loop-left
overflow_add-left-in-loop-left c = omega arith

pub loop-left-smaller : goal.loop-left-smaller
loop-left-smaller c = omega (arith, factor-above-zero _ _ c.if-q-lower.false)

pub loop-left-preserved : goal.loop-left-preserved
loop-left-preserved c = again _ _ _ _ (omega arith) _ _ c.loop-left.invariant c.if-q-lower.false

pub overflow_mul-left-2 : goal.overflow_mul-left-2
overflow_mul-left-2 c = omega arith

pub overflow_add-left-2 : goal.overflow_add-left-2
overflow_add-left-2 c = omega arith

pub overflow_mul-q-2 : goal.overflow_mul-q-2
overflow_mul-q-2 c = record { fits = product-fits c.loop-left.invariant.small (omega arith) }

pub wrapping_sub_u64-requires : goal.wrapping_sub_u64-requires
wrapping_sub_u64-requires c = tt

pub returns : goal.returns
returns c =
    let settled : c.loop-left.q * (c.args.d % 2 ^ 32) ≤ c.loop-left.left * 2 ^ 32 + c.args.x =
    elim c.loop-left-test.branch [
      | else-loop-left-test w ↦ omega (arith, product-fits {b = c.args.d % 2 ^ 32} c.loop-left.invariant.small (omega arith))
      | then-loop-left-test+then-q-lower w ↦ omega arith
    ] in
    rw div-add-mod' at (done c.args.r c.args.x (c.args.d / 2 ^ 32) (c.args.d % 2 ^ 32) (omega arith) _ _ c.wrapping_sub_u64.result c.loop-left.invariant settled (omega arith) (omega arith) c.wrapping_sub_u64.ensures.value)
