-- `num::wide::divide_short` meets its contract, by `proofs/WideDivision.antt`. Assumes nothing.
use Rattle.std.proofs.Common.{◌+◌, ◌*◌, ◌/◌, ◌%◌, ◌^◌, ◌<◌, mod-lt, arith}
use Rattle.num.proofs.WideDivision.{TwoDigits, plain, two_digits}
use Rattle.num.proofs.wide.divide_short.Goals as goal

left : (c : goal.Start) → (c.args.hi * 2 ^ 32 + c.args.lo / 2 ^ 32) % c.args.d < c.args.d
left c = mod-lt _ (omega arith)

digits : (c : goal.Start) →
    let n = c.args.hi * 2 ^ 32 + c.args.lo / 2 ^ 32 in
    let m = n % c.args.d * 2 ^ 32 + c.args.lo % 2 ^ 32 in
    TwoDigits (c.args.hi * 2 ^ 64 + c.args.lo) c.args.d (n / c.args.d) (m / c.args.d) (m % c.args.d)
digits c = two_digits c.args.hi c.args.lo c.requires.0 c.ranges.lo.fits (plain _ (omega arith)) (plain _ (omega arith))

pub overflow_mul-second : goal.overflow_mul-second
overflow_mul-second c = omega (arith, left c)

pub overflow_add-second : goal.overflow_add-second
overflow_add-second c = omega (arith, left c)

pub overflow_mul-result : goal.overflow_mul-result
overflow_mul-result c = omega (arith, (digits c).upper)

pub overflow_add-result : goal.overflow_add-result
overflow_add-result c = omega (arith, (digits c).upper, (digits c).lower)

pub returns : goal.returns
returns c = (digits c).division
