-- The least element. Definitions only.
use Rattle.std.specs.Prelude.{ℕ, ◌-◌, ◌^◌, min, List, [], ◌∷◌}

-- Rust's `iter().min()`; the largest `u64` where there is no element
unfoldable pub least_of : List ℕ → ℕ
least_of [] = 2 ^ 64 - 1
least_of (x ∷ xs) = min x (least_of xs)
