-- `num::wide::divide_long` meets its contract, by `proofs/WideShift.antt`. Assumes nothing.
use Rattle.std.proofs.Common.{◌≡◌, ℕ, ◌+◌, ◌-◌, ◌*◌, ◌/◌, ◌%◌, ◌^◌, ◌<◌, mod-eq_of_lt, arith, pow_pos}
use lib.Count.{count_leading_zeros}
use Rattle.num.proofs.WideDivision.{unscaled}
use Rattle.num.proofs.WideShift.{Normal, Scaled, normal, shifted}
use Rattle.num.proofs.wide.divide_long.Goals as goal

-- d shifted left until its top bit is set
normal-of : (d hi : ℕ) → hi < d → d < 2 ^ 64 → Normal d (count_leading_zeros 64 d)
normal-of d hi h k = normal d (omega arith) k

exact : (d hi : ℕ) → hi < d → d < 2 ^ 64 → d * 2 ^ count_leading_zeros 64 d % 2 ^ 64 ≡ d * 2 ^ count_leading_zeros 64 d
exact d hi h k = mod-eq_of_lt (normal-of d hi h k).fits

words : (d hi lo : ℕ) → hi < d → d < 2 ^ 64 → lo < 2 ^ 64 →
    let s = count_leading_zeros 64 d in
    Scaled hi lo d (2 ^ s) (hi * 2 ^ s % 2 ^ 64 + lo / 2 / 2 ^ (63 - s)) (lo * 2 ^ s % 2 ^ 64)
words d hi lo h k l = shifted hi lo d _ (normal-of d hi h k) h l

pub overflow_cast-s : goal.overflow_cast-s
overflow_cast-s c = omega (arith, (normal-of c.args.d c.args.hi c.requires c.ranges.d.fits).shift)

pub overflow_shl-hi : goal.overflow_shl-hi
overflow_shl-hi c = omega (arith, (normal-of c.args.d c.args.hi c.requires c.ranges.d.fits).shift)

pub overflow_sub-s : goal.overflow_sub-s
overflow_sub-s c = (normal-of c.args.d c.args.hi c.requires c.ranges.d.fits).shift

pub overflow_add-hi : goal.overflow_add-hi
overflow_add-hi c = omega (arith, (words c.args.d c.args.hi c.args.lo c.requires c.ranges.d.fits c.ranges.lo.fits).below, (normal-of c.args.d c.args.hi c.requires c.ranges.d.fits).fits)

pub overflow_cast-s-3 : goal.overflow_cast-s-3
overflow_cast-s-3 c = omega (arith, (normal-of c.args.d c.args.hi c.requires c.ranges.d.fits).shift)

pub overflow_shl-lo : goal.overflow_shl-lo
overflow_shl-lo c = omega (arith, (normal-of c.args.d c.args.hi c.requires c.ranges.d.fits).shift)

pub overflow_cast-s-4 : goal.overflow_cast-s-4
overflow_cast-s-4 c = omega (arith, (normal-of c.args.d c.args.hi c.requires c.ranges.d.fits).shift)

pub overflow_shl-d : goal.overflow_shl-d
overflow_shl-d c = omega (arith, (normal-of c.args.d c.args.hi c.requires c.ranges.d.fits).shift)

pub divide_normal-shifted-requires : goal.divide_normal-shifted-requires
divide_normal-shifted-requires c = rw (exact c.args.d c.args.hi c.requires c.ranges.d.fits) ((normal-of c.args.d c.args.hi c.requires c.ranges.d.fits).top, (words c.args.d c.args.hi c.args.lo c.requires c.ranges.d.fits c.ranges.lo.fits).below)

pub overflow_cast-result : goal.overflow_cast-result
overflow_cast-result c = omega (arith, (normal-of c.args.d c.args.hi c.requires c.ranges.d.fits).shift)

pub overflow_shr-result : goal.overflow_shr-result
overflow_shr-result c = omega (arith, (normal-of c.args.d c.args.hi c.requires c.ranges.d.fits).shift)

pub returns : goal.returns
returns c =
    unscaled _ (pow_pos (count_leading_zeros 64 c.args.d)) (rw (exact c.args.d c.args.hi c.requires c.ranges.d.fits, (words c.args.d c.args.hi c.args.lo c.requires c.ranges.d.fits c.ranges.lo.fits).whole) at c.divide_normal-shifted.ensures)
