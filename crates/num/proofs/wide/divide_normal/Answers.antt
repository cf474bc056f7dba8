-- `num::wide::divide_normal` meets its contract, by `proofs/WideDivision.antt`. Assumes nothing.
use Rattle.std.proofs.Common.{arith}
use Rattle.num.proofs.WideDivision.{two_digits}
use Rattle.num.proofs.wide.divide_normal.Goals as goal

pub overflow_mul-result : goal.overflow_mul-result
overflow_mul-result c =
    let digits = two_digits c.args.hi c.args.lo c.requires.1 c.ranges.lo.fits c.digit-first.ensures c.digit-second.ensures in
    omega (arith, digits.upper)

pub overflow_add-result : goal.overflow_add-result
overflow_add-result c =
    let digits = two_digits c.args.hi c.args.lo c.requires.1 c.ranges.lo.fits c.digit-first.ensures c.digit-second.ensures in
    omega (arith, digits.upper, digits.lower)

pub returns : goal.returns
returns c = (two_digits c.args.hi c.args.lo c.requires.1 c.ranges.lo.fits c.digit-first.ensures c.digit-second.ensures).division
