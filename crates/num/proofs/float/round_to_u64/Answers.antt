-- `num::float::round_to_u64` meets its contract, by `proofs/Rounding.antt`. Assumes nothing.
use Rattle.std.proofs.Common.{◌∙◌, arith}
use Rattle.std.proofs.lemmas.Float.{T_from_true}
use lib.Ieee.{of_bits}
use Rattle.num.proofs.Rounding.{whole, nothing, between}
use Rattle.num.proofs.float.round_to_u64.Goals as goal
use Rattle.num.proofs.float.round_to_u64.Goals.{else-x-via-then-x+else-x-2, else-x-via-else-x}

pub overflow_add-result : goal.overflow_add-result
unfolding of_bits
overflow_add-result c =
    omega (arith, c.to_u64.ensures, (between c.args.x (T_from_true _ c.well_formed.0.1) c.if-x.true c.if-x-2.true).small)

pub returns-then-x-2 : goal.returns-then-x-2
unfolding of_bits
returns-then-x-2 c =
    rw c.to_u64.ensures (between c.args.x (T_from_true _ c.well_formed.0.1) c.if-x.true c.if-x-2.true).half

pub returns : goal.returns
unfolding of_bits
returns c =
    c.saturating_f64_to_u64.ensures
    ∙ elim c.else-x.branch [
      | else-x-via-then-x+else-x-2 w ↦ whole c.args.x (T_from_true _ c.well_formed.0.1) w.if-x-2.false
      | else-x-via-else-x w ↦ nothing c.args.x w.if-x.false
    ]
