-- The hold pass and the loop over depths, after fee_est.rs and document 01. Definitions only.
use Rattle.std.specs.Prelude.{ℕ, suc, ◌-◌, min, Bool, cond, ◌&&◌, List, [], ◌∷◌, length, ◌==◌, nat_le, slice_index, slice_index_or, Float}
use Rattle.std.proofs.Math.Option.{Option, none, some}
use Rattle.slices.specs.Every.{every}
use Rattle.slices.specs.Lists.{tabulate}
use Rattle.rbitcoin_mempool.specs.Rates.{rate_at, rates_of, marks_valid, numbers_of, marks_of, numbers_over}
use Rattle.rbitcoin_mempool.specs.Depths.{flow_for_depth, published_depth_rate}

-- `enforce_monotone_desc`: each rate is at most the one before it
unfoldable pub no_more : ℕ → List ℕ → List ℕ
no_more last [] = []
no_more last (x ∷ xs) = min x last ∷ no_more (min x last) xs

unfoldable pub enforce_monotone_desc : List ℕ → List ℕ
enforce_monotone_desc [] = []
enforce_monotone_desc (x ∷ xs) = x ∷ no_more x xs

-- `hold_defined_then_monotone`: a missing rate takes the last one that is there
unfoldable pub fill_holes : Option ℕ → List (Option ℕ) → List (Option ℕ)
fill_holes last [] = []
fill_holes last (some v ∷ os) = some v ∷ fill_holes (some v) os
fill_holes last (none ∷ os) = last ∷ fill_holes last os

-- the rates that are there, and such a list put back in their places
unfoldable pub defined : List (Option ℕ) → List ℕ
defined [] = []
defined (some v ∷ os) = v ∷ defined os
defined (none ∷ os) = defined os

unfoldable pub put_back : List (Option ℕ) → List ℕ → List (Option ℕ)
put_back [] vs = []
put_back (none ∷ os) vs = none ∷ put_back os vs
put_back (some v ∷ os) [] = some v ∷ put_back os []
put_back (some v ∷ os) (w ∷ vs) = some w ∷ put_back os vs

unfoldable pub hold_defined_then_monotone : List (Option ℕ) → List (Option ℕ)
hold_defined_then_monotone os = let filled = fill_holes none os in put_back filled (enforce_monotone_desc (defined filled))

-- refusals 1 and 8 of the hold pass
unfoldable pub hold_refusal : List ℕ → List ℕ → Option ℕ
hold_refusal numbers marks = cond (length numbers == length marks) (cond (marks_valid marks) none (some 8)) (some 1)

-- the lists that the hold pass leaves: on a refusal as they were
abbrev pub when_accepted : {A : Type 0} → Option ℕ → A → A → A
when_accepted none after before = after
when_accepted (some k) after before = before

unfoldable pub held_numbers : List ℕ → List ℕ → List ℕ
held_numbers numbers marks = when_accepted (hold_refusal numbers marks) (numbers_over numbers (hold_defined_then_monotone (rates_of numbers marks))) numbers

unfoldable pub held_marks : List ℕ → List ℕ → List ℕ
held_marks numbers marks = when_accepted (hold_refusal numbers marks) (marks_of (hold_defined_then_monotone (rates_of numbers marks))) marks

-- ---- the loop over depths
-- its arguments: depths; projected, frontier and history rates; the confirm rate; the warm-up share
pub record Args : Type 0 where
  pub depths : List ℕ
  pub projected : List ℕ
  pub projected_marks : List ℕ
  pub frontier : List ℕ
  pub frontier_marks : List ℕ
  pub history : List ℕ
  pub history_marks : List ℕ
  pub confirm : Option ℕ
  pub alpha : Float

abbrev pub args_of : List ℕ → List ℕ → List ℕ → List ℕ → List ℕ → List ℕ → List ℕ → Option ℕ → Float → Args
args_of ds p pm f fm h hm c a = record { depths = ds; projected = p; projected_marks = pm; frontier = f; frontier_marks = fm; history = h; history_marks = hm; confirm = c; alpha = a }

-- "Per depth: `flow_for_depth` of projected and frontier, then `published_depth_rate`"
unfoldable pub published_at : Args → ℕ → Option ℕ
published_at a i =
    let n = slice_index_or a.depths i 0 in
    let f = rate_at a.frontier a.frontier_marks i in
    published_depth_rate n a.alpha (flow_for_depth (rate_at a.projected a.projected_marks i) f n) f (rate_at a.history a.history_marks i) a.confirm

-- "over all, `hold_defined_then_monotone`, which leaves the output list"
unfoldable pub depth_rates : Args → List (Option ℕ)
depth_rates a = hold_defined_then_monotone (tabulate (published_at a) 0 (length a.depths))

-- no depth is less than the one before it
unfoldable pub never_descends : List ℕ → Bool
never_descends ds = every (λ i. nat_le (slice_index ds i) (slice_index ds (suc i))) (length ds - 1)

-- refusal 1: the lists are not of one length, the output's numbers and marks among them; then 8: an input mark; then 2: a depth
abbrev pub both_have : List ℕ → List ℕ → ℕ → Bool
both_have numbers marks n = length numbers == n && length marks == n

unfoldable pub same_lengths : Args → ℕ → ℕ → Bool
same_lengths a out out_marks =
    let n = length a.depths in
    both_have a.projected a.projected_marks n && (both_have a.frontier a.frontier_marks n && (both_have a.history a.history_marks n && (out == n && out_marks == n)))

unfoldable pub input_marks : Args → Bool
input_marks a = marks_valid a.projected_marks && (marks_valid a.frontier_marks && marks_valid a.history_marks)

unfoldable pub loop_refusal : Args → ℕ → ℕ → Option ℕ
loop_refusal a out out_marks = cond (same_lengths a out out_marks) (cond (input_marks a) (cond (never_descends a.depths) none (some 2)) (some 8)) (some 1)

-- the output list that the loop leaves: on a refusal as it was
unfoldable pub loop_numbers : Args → List ℕ → List ℕ → List ℕ
loop_numbers a out out_marks = when_accepted (loop_refusal a (length out) (length out_marks)) (numbers_of (depth_rates a)) out

unfoldable pub loop_marks : Args → List ℕ → List ℕ → List ℕ
loop_marks a out out_marks = when_accepted (loop_refusal a (length out) (length out_marks)) (marks_of (depth_rates a)) out_marks
