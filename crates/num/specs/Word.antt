-- Rust's arithmetic on a `u64` that keeps to the range. Definitions only.
use Rattle.std.specs.Prelude.{ℕ, ◌+◌, ◌-◌, ◌*◌, ◌^◌, min, max}

-- `saturating_add`: the sum, or the largest `u64` where that is less
abbrev pub saturating_add : ℕ → ℕ → ℕ
saturating_add a b = min (a + b) (2 ^ 64 - 1)

-- `saturating_sub`: the difference, and 0 where b is above a
abbrev pub saturating_sub : ℕ → ℕ → ℕ
saturating_sub a b = a - b

-- `saturating_mul`: the product, or the largest `u64` where that is less
abbrev pub saturating_mul : ℕ → ℕ → ℕ
saturating_mul a b = min (a * b) (2 ^ 64 - 1)

-- `min`
abbrev pub least : ℕ → ℕ → ℕ
least a b = min a b

-- `max`
abbrev pub greatest : ℕ → ℕ → ℕ
greatest a b = max a b
