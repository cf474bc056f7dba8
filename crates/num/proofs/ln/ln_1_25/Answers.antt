-- `num::ln::ln_1_25` meets its contract: both sides compute. Assumes nothing.
use Rattle.std.proofs.Common.{refl}
use lib.Ieee.{size, add, sub, mul, div, le, of_bits, of_int}
use Rattle.num.specs.Ln.{significand_of, exponent_of, terms, ln_of}
use Rattle.num.proofs.ln.ln_1_25.Goals as goal

pub returns : goal.returns
unfolding ln_of significand_of exponent_of terms size add sub mul div le of_bits of_int
returns c = refl
