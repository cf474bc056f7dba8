-- `num::ln::exponent` meets its contract, by `proofs/Fields.antt`. Assumes nothing.
use Rattle.std.proofs.Common.{T, sym, subst, arith}
use Rattle.num.proofs.Fields.{Fields, fields, is_number}
use Rattle.num.proofs.ln.exponent.Goals as goal

read : (c : goal.Start) → Fields c.args.x
read c = fields c.args.x (subst T (sym c.well_formed.0.1) tt) c.requires

pub float_to_bits-result : goal.float_to_bits-result
float_to_bits-result c = is_number c.args.x c.requires

pub overflow_sub-result : goal.overflow_sub-result
overflow_sub-result c = omega (arith, (read c).exponent)

pub overflow_cast-result : goal.overflow_cast-result
overflow_cast-result c = omega (arith, (read c).exponent, (read c).small)

pub returns : goal.returns
returns c = omega (arith, (read c).exponent)
