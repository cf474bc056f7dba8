-- Hexadecimal digits, lower case, and bit patterns. Definitions only.
use Rattle.std.specs.Prelude.{ℕ, zero, suc, ◌+◌, ◌-◌, ◌*◌, ◌%◌, ◌^◌, cond, List, nat_lt, slice_index, to_bits, Float}
use Rattle.std.specs.Float.{binary64}
use Rattle.std.specs.Float.Ieee.{ne}

-- 0 to 9 and a to f; any other byte counts as 0
unfoldable pub hex_digit : ℕ → ℕ
hex_digit b =
    cond (nat_lt b 48) 0 (cond (nat_lt b 58) (b - 48) (cond (nat_lt b 97) 0 (cond (nat_lt b 103) (b - 87) 0)))

-- the number that the n digits from a place on spell, the last 64 bits of it; what lies past the end counts as 0
unfoldable pub hex_of : List ℕ → ℕ → ℕ → ℕ
hex_of s at zero = 0
hex_of s at (suc n) = hex_of s at n % 2 ^ 60 * 16 + hex_digit (slice_index s (at + n))

-- a float's bit pattern, the same for every NaN
abbrev pub one_nan : Float → ℕ
one_nan x = cond (ne x x) 9221120237041090560 (to_bits binary64 x)
