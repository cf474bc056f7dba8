-- The stand-in logarithm, over lib.Ieee's operations; what stands in quotes is document 01's text. Definitions only.
use Rattle.std.specs.Prelude.{ℕ, zero, suc, ◌+◌, ◌-◌, ◌*◌, Bool, true, false, cond, not, ◌&&◌, pos, negsuc, ◌==◌, from_bits, nat_le, Float}
use Rattle.std.specs.Float.{nan, inf, fin, binary64}
use Rattle.std.specs.Float.Ieee.{up, down, minus, size, add, sub, mul, div, le, of_int}
use Rattle.num.specs.Exp.{one, hi, lo}

-- zero of either sign; and a finite value from 1 up
abbrev pub is_zero : Float → Bool
is_zero nan = false
is_zero (inf s) = false
is_zero (fin s m e) = m == 0

abbrev pub from_one : Float → Bool
from_one nan = false
from_one (inf s) = false
from_one (fin s m e) = not s && nat_le (down e) (m * up e)

-- 'Write the value as m × 2^k, m from 1 to below 2': m, which has the value's digits, and k, of a finite value from 1 up
unfoldable pub significand_of : Float → Float
significand_of nan = nan
significand_of (inf s) = nan
significand_of (fin s m e) = fin s m (minus 0 (size m - 1))

unfoldable pub exponent_of : Float → ℕ
exponent_of nan = 0
exponent_of (inf s) = 0
exponent_of (fin s m (pos a)) = size m - 1 + a
exponent_of (fin s m (negsuc a)) = size m - 1 - suc a

abbrev pub sqrt2 : Float
sqrt2 = from_bits binary64 0x3FF6_A09E_667F_3BCD

abbrev pub half : Float
half = from_bits binary64 0x3FE0_0000_0000_0000

abbrev pub two : Float
two = from_bits binary64 0x4000_0000_0000_0000

-- 's = (m−1)/(m+1)'
abbrev pub ratio : Float → Float
ratio m = div binary64 (sub binary64 m one) (add binary64 m one)

-- 1/(2j+1)
abbrev pub reciprocal : ℕ → Float
reciprocal j = div binary64 one (of_int binary64 (pos (2 * j + 1)))

-- from the j below the one given 'down to 0, t becomes 1/(2j+1) + z × t'
unfoldable pub terms : Float → ℕ → Float → Float
terms z zero t = t
terms z (suc j) t = terms z j (add binary64 (reciprocal j) (mul binary64 z t))

-- 'k × HI + ((2 × s) × t + k × LO)'
abbrev pub total : Float → Float → Float → Float
total k s t = add binary64 (mul binary64 k hi) (add binary64 (mul binary64 (mul binary64 two s) t) (mul binary64 k lo))

-- 'z = s × s. Start t at 1/21; for j from 9 down to 0'
abbrev pub ln_by : Float → ℕ → Float
ln_by s k = total (of_int binary64 (pos k)) s (terms (mul binary64 s s) 10 (reciprocal 10))

-- 'if m is at least SQRT_2, halve m and raise k by one'
abbrev pub ln_at : Float → ℕ → Float
ln_at m k = cond (le sqrt2 m) (ln_by (ratio (mul binary64 m half)) (k + 1)) (ln_by (ratio m) k)

-- 'Logarithm, of 0 (minus infinity) and of values from 1 up'. It has no logarithm of other values, and no function here takes one: `nan` stands there
unfoldable pub ln_of : Float → Float
ln_of x = cond (from_one x) (ln_at (significand_of x) (exponent_of x)) (cond (is_zero x) (inf true) nan)
