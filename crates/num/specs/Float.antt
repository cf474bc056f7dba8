-- Rust's casts, comparisons and rounding of `f64`, from the Rust reference and IEEE 754, over lib.Ieee's values. Definitions only.
use Rattle.std.specs.Prelude.{ℕ, ◌+◌, ◌-◌, ◌*◌, ◌/◌, ◌%◌, ◌^◌, Bool, true, false, cond, ℤ, pos, ◌==◌, is_nan, to_bits, Float}
use Rattle.std.specs.Float.{nan, inf, fin, binary64}
use Rattle.std.specs.Float.Ieee.{up, down, neg, lt, of_int, to_unsigned}

-- `n as f64` of an unsigned integer: the nearest value, ties to even
abbrev pub of_u64 : ℕ → Float
of_u64 n = of_int binary64 (pos n)

-- `x as u64`: toward zero; 0 for NaN and below zero, the largest u64 when too big
abbrev pub to_u64 : Float → ℕ
to_u64 x = to_unsigned 64 x

-- `x.is_finite()`: neither infinite nor NaN
abbrev pub is_finite : Float → Bool
is_finite nan = false
is_finite (inf s) = false
is_finite (fin s m e) = true

-- `x.max(y)`: the greater, and the other one where one is NaN. Of two that compare equal Rust may return either, and this returns x.
unfoldable pub max_of : Float → Float → Float
max_of x y = cond (is_nan x) y (cond (lt x y) y x)

-- `x.clamp(lo, hi)`: lo where x is below it, then hi where that is above it. NaN stays NaN; with lo = 0 and hi not below 0, -0 stays -0.
abbrev pub clamp_below : Float → Float → Float
clamp_below x hi = cond (lt hi x) hi x

unfoldable pub clamp_of : Float → Float → Float → Float
clamp_of x lo hi = clamp_below (cond (lt x lo) lo x) hi

-- the size of m * 2 ^ e without its fraction, and whether it has none
abbrev pub cut : ℕ → ℤ → ℕ
cut m e = m * up e / down e

abbrev pub is_whole : ℕ → ℤ → Bool
is_whole m e = m * up e % down e == 0

-- `x.floor()` and `x.ceil()`: the nearest whole number at or below x, and at or above it. A whole number, an infinity and NaN stay.
unfoldable pub floor_of : Float → Float
floor_of nan = nan
floor_of (inf s) = inf s
floor_of (fin s m e) = cond (is_whole m e) (fin s m e) (cond s (neg (of_u64 (cut m e + 1))) (of_u64 (cut m e)))

unfoldable pub ceil_of : Float → Float
ceil_of nan = nan
ceil_of (inf s) = inf s
ceil_of (fin s m e) = cond (is_whole m e) (fin s m e) (cond s (neg (of_u64 (cut m e))) (of_u64 (cut m e + 1)))

-- `x.abs()`: the sign cleared
abbrev pub abs_of : Float → Float
abs_of nan = nan
abs_of (inf s) = inf false
abs_of (fin s m e) = fin false m e

-- the bits of `x.abs()`, by which `total_cmp` orders what is not negative; a NaN comes last, whichever it is
unfoldable pub abs_bits : Float → ℕ
abs_bits x = cond (is_nan x) (2 ^ 64 - 1) (to_bits binary64 (abs_of x))
