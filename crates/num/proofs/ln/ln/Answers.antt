-- `num::ln::ln` meets its contract: each return is a case of `proofs/Logarithm.antt`. Assumes nothing.
use Rattle.std.proofs.Common.{ap, ◌∙◌, arith}
use Rattle.std.proofs.lemmas.Float.{T_from_true}
use lib.Ieee.{neg, div, le, of_bits}
use Rattle.num.specs.Ln.{sqrt2, ln_of}
use Rattle.num.proofs.Fields.{fields}
use Rattle.num.proofs.Logarithm.{is_from_one, at_zero, at_either, byte_le}
use Rattle.num.proofs.ln.ln.Goals as goal

pub returns-then-n-eq0 : goal.returns-then-n-eq0
unfolding of_bits neg div
returns-then-n-eq0 c = rw c.if-n-eq0.true at_zero

pub overflow_add-exponent : goal.overflow_add-exponent
overflow_add-exponent c =
    let x = c.from_u64-x.result in
    let F = fields x (T_from_true _ c.from_u64-x.type_inv) (is_from_one c.args.n x c.from_u64-x.ensures c.ranges.n.fits (omega arith)) in
    omega (arith, c.exponent.ensures, F.small, byte_le (le sqrt2 c.significand-halve.result))

pub returns : goal.returns
returns c =
    let x = c.from_u64-x.result in
    c.sum.ensures
    ∙ at_either x (is_from_one c.args.n x c.from_u64-x.ensures c.ranges.n.fits (omega arith)) c.significand-halve.result c.exponent.result c.significand-halve.ensures c.exponent.ensures c.significand.result c.significand.ensures
    ∙ ap ln_of c.from_u64-x.ensures
