-- The lookback of a target and its median, after fee_analog.rs. Definitions only.
use Rattle.std.specs.Prelude.{ℕ, ◌-◌, ◌/◌, min, max, List, [], ◌∷◌, length, take, drop, slice_index, Float}
use Rattle.num.specs.Float.{of_u64}
use Rattle.num.specs.Ln.{ln_of}
use Rattle.slices.specs.Sorted.{sorted}
use Rattle.rbitcoin_mempool.specs.Answer.{Answer, rate, refusal}

-- `analog_lookback`: `(n_blocks / 4).clamp(3, 144)`
unfoldable pub analog_lookback : ℕ → ℕ
analog_lookback n = min (max (n / 4) 3) 144

-- `ln_rate`: `(rate.max(1) as f64).ln()`
unfoldable pub ln_rate : ℕ → Float
ln_rate r = ln_of (of_u64 (max r 1))

-- `hurdles.range(t - n..t)`: of the hurdles before place t, the last n
unfoldable pub lookback_part : List ℕ → ℕ → ℕ → List ℕ
lookback_part hs t n = drop (length (take t hs) - n) (take t hs)

-- the element at (length - 1) / 2 of the sorted list; 0 where there is none
unfoldable pub median_of : List ℕ → ℕ
median_of xs = slice_index (sorted xs) ((length xs - 1) / 2)

-- `lower_median`; "6: median or quantile of an empty list"
unfoldable pub lower_median : List ℕ → Answer
lower_median [] = refusal 6
lower_median (x ∷ xs) = rate (median_of (x ∷ xs))
