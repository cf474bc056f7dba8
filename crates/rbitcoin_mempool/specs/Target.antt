-- The lookup of a target among depths, after fee_est.rs. Definitions only.
use Rattle.std.specs.Prelude.{ℕ, ◌+◌, ◌-◌, ◌*◌, ◌^◌, ◌/◌, ◌%◌, min, max, cond, not, ◌||◌, leb, List, [], ◌∷◌, length, take, ◌==◌, nat_le, nat_lt, slice_index, slice_index_or}
use Rattle.std.proofs.Math.Option.{Option, none, some}
use Rattle.slices.specs.Search.{seek}
use Rattle.rbitcoin_mempool.specs.Answer.{Answer, refusal}
use Rattle.rbitcoin_mempool.specs.Answer.{none as nothing}
use Rattle.rbitcoin_mempool.specs.Rates.{as_answer, rates_of, marks_valid}
use Rattle.rbitcoin_mempool.specs.Hold.{never_descends}

-- a quotient to the nearest whole number, halves up: the Rust's quotient, and one more where twice the remainder is at least the span
unfoldable pub nearest_quotient : ℕ → ℕ → ℕ
nearest_quotient numer span = cond (nat_le span (numer % span * 2)) (numer / span + 1) (numer / span)

-- the point of the line at a distance from its left end, to the nearest, in one word
abbrev pub nearest_on : ℕ → ℕ → ℕ → ℕ → ℕ
nearest_on left right dist span = min (nearest_quotient (left * (span - dist) + right * dist) span) (2 ^ 64 - 1)

-- `lerp_sat_kvb`: the straight line at the target, rounded, and held between the two ends
unfoldable pub lerp_sat_kvb : ℕ → ℕ → ℕ → ℕ → ℕ → ℕ
lerp_sat_kvb d0 left d1 right target =
    let span = d1 - d0 in
    let dist = min (target - d0) span in
    cond (span == 0) left (max (min left right) (min (max left right) (nearest_quotient (left * (span - dist) + right * dist) span)))

-- the last rate that is there, `rates.iter().rev().find_map(|r| r)`
module _ {A : Type 0} where
  abbrev pub unless_later : Option A → Option A → Option A
  unless_later o (some r) = some r
  unless_later o none = o

  unfoldable pub last_there : List (Option A) → Option A
  last_there [] = none
  last_there (o ∷ os) = unless_later o (last_there os)

-- between two depths: the line where both ends are there, the left one where the right is missing, else the last one before
module _ {A : Type 0} (line : A → A → A) (before : Option A) where
  abbrev pub between : Option A → Option A → Option A
  between (some l) (some r) = some (line l r)
  between (some l) none = some l
  between none r = before

-- `fee_at_target_sat_kvb` over rates of any kind, by the line between two of them: d0, left, d1, right
module _ {A : Type 0} (line : ℕ → A → ℕ → A → A) (depths : List ℕ) (rates : List (Option A)) (target : ℕ) where
  unfoldable pub at_index : ℕ → Option A
  at_index i =
      cond (slice_index depths i == target) (slice_index_or rates i none)
      (cond (i == 0) none
      (between (λ l r. line (slice_index depths (i - 1)) l (slice_index depths i) r) (last_there (take i rates)) (slice_index_or rates (i - 1) none) (slice_index_or rates i none)))

  unfoldable pub at_target : Option A
  at_target =
      cond (nat_lt (slice_index depths (length depths - 1)) target) (last_there rates)
      (at_index (seek (λ i. leb target (slice_index depths i)) 0 (length depths)))

unfoldable pub fee_at_target : List ℕ → List (Option ℕ) → ℕ → Option ℕ
fee_at_target depths rates target = at_target (λ d0 l d1 r. lerp_sat_kvb d0 l d1 r target) depths rates target

-- the lookup with its refusals: 1, then no rate for no depths or another length, then 8, then 2
unfoldable pub fee_at_target_sat_kvb : List ℕ → List ℕ → List ℕ → ℕ → Answer
fee_at_target_sat_kvb depths numbers marks target =
    cond (length numbers == length marks)
    (cond (length depths == 0 || not (length depths == length numbers)) nothing
    (cond (marks_valid marks) (cond (never_descends depths) (as_answer (fee_at_target depths (rates_of numbers marks) target)) (refusal 2)) (refusal 8)))
    (refusal 1)
