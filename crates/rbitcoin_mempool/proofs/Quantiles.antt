-- The quantile's definitions by the list's length and the confidence, as the code tests them. Assumes nothing.
use Rattle.std.proofs.Common.{◌≡◌, ℕ, ◌<◌, ◌≤◌, Bool, true, false, cond, leb, List, [], ◌∷◌, length, get_or, refl, le_antisymm, arith}
use lib.Ieee.{Float}
use Rattle.slices.specs.Sorted.{sorted, at_most}
use Rattle.slices.proofs.Sorting.{sorted-ascending, sorted-length, kth-at_most}
use Rattle.slices.proofs.Tallies.{tally-le}
use Rattle.rbitcoin_mempool.specs.Answer.{rate, refusal}
use Rattle.rbitcoin_mempool.specs.Quantile.{rank_of, lower_place, upper_place, between_neighbors, at_rank, quantile_of, in_unit, log_quantile, log_quantile_leaves}

module _ (c : Float) where
  -- from the two neighbours
  pub quantile-by : (xs : List ℕ) (r : Float) (k l a b q : ℕ) → r ≡ rank_of c (length xs) → k ≡ lower_place r → l ≡ upper_place r
      → a ≡ get_or (sorted xs) k 0 → b ≡ get_or (sorted xs) l 0 → q ≡ between_neighbors a b r → q ≡ quantile_of xs c
  unfolding quantile_of at_rank
  quantile-by xs r k l a b q e f g h i j = rw (← e, ← f, ← g, ← h, ← i) j

  pub quantile_empty : (xs : List ℕ) → length xs ≡ 0 → refusal 6 ≡ log_quantile xs c
  unfolding log_quantile
  quantile_empty [] e = refl
  quantile_empty (x ∷ xs) e = absurd (let f : ⊥ = omega arith in f)

  pub quantile-refused : (xs : List ℕ) → (length xs ≡ 0 → ⊥) → in_unit c ≡ false → refusal 7 ≡ log_quantile xs c
  unfolding log_quantile
  quantile-refused [] n h = absurd (n refl)
  quantile-refused (x ∷ xs) n h = rw h

  pub quantile-found : (xs : List ℕ) → (length xs ≡ 0 → ⊥) → in_unit c ≡ true → rate (quantile_of xs c) ≡ log_quantile xs c
  unfolding log_quantile
  quantile-found [] n h = absurd (n refl)
  quantile-found (x ∷ xs) n h = rw h

  pub leaves_empty : (xs : List ℕ) → length xs ≡ 0 → xs ≡ log_quantile_leaves xs c
  unfolding log_quantile_leaves sorted
  leaves_empty [] e = go (in_unit c)
    where
      go : (b : Bool) → ◌≡◌ {A = List ℕ} [] (cond b [] [])
      go true = refl
      go false = refl
  leaves_empty (x ∷ xs) e = absurd (let f : ⊥ = omega arith in f)

  pub leaves-refused : (xs : List ℕ) → in_unit c ≡ false → xs ≡ log_quantile_leaves xs c
  unfolding log_quantile_leaves
  leaves-refused xs h = rw h

  pub leaves_sorted : (xs : List ℕ) → in_unit c ≡ true → sorted xs ≡ log_quantile_leaves xs c
  unfolding log_quantile_leaves
  leaves_sorted xs h = rw h

-- where more than l elements are at most the element at k, and l is not before k, it stands at l too
pub repeated : (k l : ℕ) (xs : List ℕ) (a n : ℕ) → a ≡ get_or (sorted xs) k 0 → n ≡ at_most a xs → k ≤ l → l < n → a ≡ get_or (sorted xs) l 0
repeated k l xs a n f e h r =
    let q : l < at_most a xs = omega (arith, e) in
    let t = tally-le (λ x. leb x a) xs in
    le_antisymm
    (rw f (sorted-ascending xs k l h (omega (arith, sorted-length xs))))
    (kth-at_most xs l a q)
