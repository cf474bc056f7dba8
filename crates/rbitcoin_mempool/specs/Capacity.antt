-- Capacity, projected inflow and the capacity search, after fee_est.rs. Definitions only.
use Rattle.std.specs.Prelude.{◌≡◌, ℕ, ◌*◌, ◌<◌, ◌≤◌, min, Bool, true, false, cond, List, [], ◌∷◌, length, take, drop, pos, ◌==◌, nat_le, slice_index, slice_index_or, Float}
use Rattle.std.specs.Float.{fin, binary64}
use Rattle.std.specs.Float.Ieee.{mul, round}
use Rattle.num.specs.Word.{saturating_add, saturating_mul, greatest}
use Rattle.num.specs.Float.{of_u64, to_u64}
use Rattle.slices.specs.Lists.{tabulate}
use Rattle.rbitcoin_mempool.specs.Answer.{Answer, rate, none, refusal, lesser}
use Rattle.rbitcoin_mempool.specs.Edges.{first_bucket_above}

-- `capacity_wu` and `horizon_secs`: N blocks, N at least 1
abbrev pub capacity_wu : ℕ → ℕ
capacity_wu n = saturating_mul (greatest n 1) 4000000

abbrev pub horizon_secs : ℕ → ℕ
horizon_secs n = saturating_mul (greatest n 1) 600

-- `inflow_horizon_secs`: at most `INFLOW_HORIZON_CAP_SECS`
abbrev pub inflow_horizon_secs : ℕ → ℕ
inflow_horizon_secs n = min (horizon_secs n) 600

-- `inclusion_confidence`: the f64 nearest to 0.999 at N up to 1, and to 0.99 from 2 on
unfoldable pub inclusion_confidence : ℕ → Float
inclusion_confidence n = cond (nat_le n 1) (round binary64 false 999 1000) (round binary64 false 99 100)

-- "3,200,000 for N of 0 or 1 and 3,800,000 × N from 2 on"
unfoldable pub effective_capacity_wu : ℕ → ℕ
effective_capacity_wu n = cond (nat_le n 1) 3200000 (3800000 * n)

-- the weight that the buckets of a list bring in a time, saturating as in the Rust, from the last one on
unfoldable pub inflow_wu : ℕ → List ℕ → ℕ
inflow_wu secs [] = 0
inflow_wu secs (x ∷ xs) = saturating_add (inflow_wu secs xs) (saturating_mul x secs)

-- `inflow_suffix_wu`: buckets from i on, of the first 402; "403 numbers, 0 past the Rust's end"
unfoldable pub inflow_suffix_wu : List ℕ → ℕ → List ℕ
inflow_suffix_wu inflow secs = tabulate (λ i. inflow_wu secs (drop i (take 402 inflow))) 0 403

-- "the suffix sum as f64, doubled at N ≤ 1, then cast to u64"
unfoldable pub stressed_wu : ℕ → ℕ → ℕ
stressed_wu n sum = to_u64 (cond (nat_le n 1) (mul binary64 (of_u64 sum) (fin false 1 (pos 1))) (of_u64 sum))

-- whether the stock above a candidate and the stressed inflow above it, read off the suffix sums, fit the effective capacity
unfoldable pub fits_with : List ℕ → ℕ → ℕ → ℕ → Bool
fits_with suffix n candidate stock = nat_le (saturating_add stock (stressed_wu n (slice_index suffix (first_bucket_above candidate)))) (effective_capacity_wu n)

unfoldable pub fits : List ℕ → ℕ → ℕ → ℕ → Bool
fits inflow n = fits_with (inflow_suffix_wu inflow (inflow_horizon_secs n)) n

-- the least candidate that passes with its stock, none exactly if none passes
unfoldable pub least_fitting : (ℕ → ℕ → Bool) → List ℕ → List ℕ → Answer
least_fitting p [] stock = none
least_fitting p (c ∷ cs) [] = none
least_fitting p (c ∷ cs) (s ∷ ss) = cond (p c s) (lesser c (least_fitting p cs ss)) (least_fitting p cs ss)

-- `min_rate_for_capacity`, one stock weight for each candidate; refusal 1 where their numbers differ
unfoldable pub min_rate_for_capacity : List ℕ → List ℕ → List ℕ → ℕ → Answer
min_rate_for_capacity candidates stock inflow n =
    cond (length candidates == length stock) (least_fitting (fits inflow n) candidates stock) (refusal 1)

-- ---- what an answer of the search says, by any test of fit
-- r stands at a place of the list where it passes, and no candidate that passes is below it
pub record LeastFit (p : ℕ → ℕ → Bool) (cs ss : List ℕ) (r : ℕ) : Type 0 where
  pub at : ℕ
  pub within : at < length cs
  pub is : slice_index_or cs at 0 ≡ r
  pub passes : p r (slice_index ss at) ≡ true
  pub least : (j : ℕ) → j < length cs → p (slice_index cs j) (slice_index ss j) ≡ true → r ≤ slice_index cs j

-- none passes
abbrev pub Unfit : (ℕ → ℕ → Bool) → List ℕ → List ℕ → Type 0
Unfit p cs ss = (j : ℕ) → j < length cs → p (slice_index cs j) (slice_index ss j) ≡ false

abbrev pub Meant : (ℕ → ℕ → Bool) → List ℕ → List ℕ → Answer → Type 0
Meant p cs ss (rate r) = LeastFit p cs ss r
Meant p cs ss none = Unfit p cs ss
Meant p cs ss (refusal k) = ⊥
