-- `num::ln::significand` meets its contract, by `proofs/Fields.antt` and `proofs/Halved.antt`. Assumes nothing.
use Rattle.std.proofs.lemmas.Float.{T_from_true}
use Rattle.num.proofs.Fields.{fields, is_number}
use Rattle.num.proofs.Halved.{halved}
use Rattle.num.proofs.ln.significand.Goals as goal

pub float_to_bits-digits : goal.float_to_bits-digits
float_to_bits-digits c = is_number c.args.x c.requires

pub float_from_bits-result : goal.float_from_bits-result
float_from_bits-result c = (halved c.args.x (T_from_true _ c.well_formed.0.1) c.requires).number

pub float_from_bits-result-else-halve : goal.float_from_bits-result-else-halve
float_from_bits-result-else-halve c = (fields c.args.x (T_from_true _ c.well_formed.0.1) c.requires).number

pub returns-then-halve : goal.returns-then-halve
returns-then-halve c = rw c.if-halve.true (halved c.args.x (T_from_true _ c.well_formed.0.1) c.requires).bits

pub returns-else-halve : goal.returns-else-halve
returns-else-halve c = rw c.if-halve.false (fields c.args.x (T_from_true _ c.well_formed.0.1) c.requires).significand
