-- `num::exp::exp` meets its contract: each return is a case of `exp_of`. Assumes nothing.
use Rattle.std.proofs.Common.{sym, ◌∙◌}
use lib.Ieee.{of_bits, of_int, neg}
use Rattle.num.proofs.Exponential.{small-up, small-down}
use Rattle.num.specs.Exp.{exp_of}
use Rattle.num.proofs.exp.exp.Goals as goal

pub returns-then-is_nan : goal.returns-then-is_nan
unfolding exp_of of_bits
returns-then-is_nan c = rw (sym c.is_nan.ensures.value ∙ c.if-is_nan.true)

pub returns-then-x : goal.returns-then-x
unfolding exp_of of_bits of_int neg
returns-then-x c = rw (sym c.is_nan.ensures.value ∙ c.if-is_nan.false, c.if-x.true)

pub returns-then-x-2 : goal.returns-then-x-2
unfolding exp_of of_bits of_int neg
returns-then-x-2 c = rw (sym c.is_nan.ensures.value ∙ c.if-is_nan.false, c.if-x.false, c.if-x-2.true)

pub scaled-requires : goal.scaled-requires
unfolding of_bits neg
scaled-requires c = rw c.round_to_u64.ensures (small-down c.args.x c.if-x.false)

pub scaled-requires-else-p : goal.scaled-requires-else-p
unfolding of_bits
scaled-requires-else-p c = rw c.round_to_u64-else-p.ensures (small-up c.args.x c.if-x-2.false)

pub returns-then-p : goal.returns-then-p
unfolding exp_of of_bits of_int neg
returns-then-p c =
    rw (sym c.is_nan.ensures.value ∙ c.if-is_nan.false, c.if-x.false, c.if-x-2.false, c.if-p.true, ← c.round_to_u64.ensures) c.scaled.ensures

pub returns-else-p : goal.returns-else-p
unfolding exp_of of_bits of_int neg
returns-else-p c =
    rw (sym c.is_nan.ensures.value ∙ c.if-is_nan.false, c.if-x.false, c.if-x-2.false, c.if-p.false, ← c.round_to_u64-else-p.ensures) c.scaled-else-p.ensures
