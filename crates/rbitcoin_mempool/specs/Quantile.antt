-- `log_quantile`, after fee_analog.rs, over lib.Ieee's operations and the stand-ins. Definitions only.
use Rattle.std.specs.Prelude.{ℕ, ◌-◌, Bool, false, cond, ◌&&◌, List, [], ◌∷◌, length, pos, ◌==◌, from_bits, slice_index, Float}
use Rattle.std.specs.Float.{fin, binary64}
use Rattle.std.specs.Float.Ieee.{add, sub, mul, le}
use Rattle.num.specs.Float.{of_u64, to_u64, clamp_of, floor_of, ceil_of}
use Rattle.num.specs.Round.{round_to_u64}
use Rattle.num.specs.Exp.{one, exp_of}
use Rattle.num.specs.Ln.{ln_of}
use Rattle.slices.specs.Sorted.{sorted}
use Rattle.rbitcoin_mempool.specs.Answer.{Answer, rate, refusal}

-- `HISTORICAL_CONFIDENCE_FAR`: the double nearest 0.95
abbrev pub historical_confidence_far : Float
historical_confidence_far = from_bits binary64 0x3FEE_6666_6666_6666

-- `(confidence * n as f64).clamp(1.0, n as f64)`
unfoldable pub rank_of : Float → ℕ → Float
rank_of confidence n = clamp_of (mul binary64 confidence (of_u64 n)) one (of_u64 n)

-- `rank.floor() as usize - 1` and `rank.ceil() as usize - 1`
unfoldable pub lower_place : Float → ℕ
lower_place r = to_u64 (floor_of r) - 1

unfoldable pub upper_place : Float → ℕ
upper_place r = to_u64 (ceil_of r) - 1

-- `(1.0 - frac) * (a as f64).ln() + frac * (b as f64).ln()`, then `exp().round() as u64`
unfoldable pub blend_of : ℕ → ℕ → Float → ℕ
blend_of a b frac =
    round_to_u64 (exp_of (add binary64 (mul binary64 (sub binary64 one frac) (ln_of (of_u64 a))) (mul binary64 frac (ln_of (of_u64 b)))))

-- between the two neighbours of a rank, with `frac = rank - rank.floor()`; neighbours that are equal, one place too, stay
unfoldable pub between_neighbors : ℕ → ℕ → Float → ℕ
between_neighbors a b r = cond (a == b) a (blend_of a b (sub binary64 r (floor_of r)))

-- the quantile of an ascending list at a rank
unfoldable pub at_rank : List ℕ → Float → ℕ
at_rank s r = between_neighbors (slice_index s (lower_place r)) (slice_index s (upper_place r)) r

unfoldable pub quantile_of : List ℕ → Float → ℕ
quantile_of xs confidence = at_rank (sorted xs) (rank_of confidence (length xs))

-- `(0.0..=1.0).contains(&confidence)`: from 0 to 1, and no NaN; -0 counts as 0
unfoldable pub in_unit : Float → Bool
in_unit c = le (fin false 0 (pos 0)) c && le c one

-- `log_quantile`; "6: median or quantile of an empty list. 7: quantile confidence NaN or outside 0 to 1, after 6"
unfoldable pub log_quantile : List ℕ → Float → Answer
log_quantile [] c = refusal 6
log_quantile (x ∷ xs) c = cond (in_unit c) (rate (quantile_of (x ∷ xs) c)) (refusal 7)

-- "the quantile leaves its lent list ascending", and a refusal leaves it as found
unfoldable pub log_quantile_leaves : List ℕ → Float → List ℕ
log_quantile_leaves xs c = cond (in_unit c) (sorted xs) xs
