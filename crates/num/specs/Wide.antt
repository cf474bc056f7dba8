-- Rust's `u128` as two words of 64 bits, and division. Definitions only.
use Rattle.std.specs.Prelude.{◌≡◌, ℕ, zero, suc, ◌+◌, ◌*◌, ◌/◌, ◌%◌, ◌^◌, ◌<◌}
use Rattle.num.specs.declared.wide.Wide.{Wide}

-- the number that the two words hold
unfoldable pub value : Wide → ℕ
value w = w.hi * 2 ^ 64 + w.lo

-- `wrapping_add`: the sum modulo 2 ^ 128
unfoldable pub wrapping_sum : ℕ → ℕ → ℕ
wrapping_sum a b = (a + b) % 2 ^ 128

-- the quotient and the remainder of n by d, and 0 and 0 where d is 0
unfoldable pub divided : ℕ → ℕ → ℕ × ℕ
divided n zero = (0, 0)
divided n (suc d) = (n / suc d, n % suc d)

-- q and r are the quotient and the remainder of n by d
pub record IsDivision (n d q r : ℕ) : Type 0 where
  pub whole : q * d + r ≡ n
  pub below : r < d
