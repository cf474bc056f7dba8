-- `percentile_sat`, after fee_est.rs. Definitions only.
use Rattle.std.specs.Prelude.{ℕ, ◌/◌, min, List, [], ◌∷◌, length, slice_index}
use Rattle.num.specs.Word.{saturating_mul}
use Rattle.slices.specs.Sorted.{sorted}
use Rattle.rbitcoin_mempool.specs.Answer.{Answer, rate, none}

-- none of an empty list, else the element at (length - 1) * min(pct, 100) / 100 of the sorted list
unfoldable pub percentile_sat : List ℕ → ℕ → Answer
percentile_sat [] pct = none
percentile_sat (x ∷ xs) pct = rate (slice_index (sorted (x ∷ xs)) (saturating_mul (length xs) (min pct 100) / 100))
