-- The binary search: its turns, and what it finds. Assumes nothing.
use Rattle.std.proofs.Common.{◌≡◌, ℕ, zero, suc, ◌+◌, ◌-◌, ◌/◌, ◌<◌, ◌≤◌, min, Bool, true, false, cond, List, length, ltb, leb, get_or, refl, subst, arith, ltb-true, ltb-false, le-leb}
use borrow.Author.Tests.{lt-ltb, le-ltb, lt-leb}
use Rattle.slices.specs.Search.{seek, bisect, lower_bound}
use Rattle.slices.proofs.Seeking.{Cut, cut-start, cut_up, cut_down, cut_end}

abbrev pub mid : ℕ → ℕ → ℕ
mid a b = a + (b - a) / 2

-- k turns suffice from a to b, and what they find is p
abbrev pub Turns : List ℕ → ℕ → ℕ → ℕ → ℕ → Type 0
Turns xs v a b p = (k : ℕ) × (b - a ≤ k) × (bisect k xs v a b ≡ p)

-- so many as there are places, at the start
pub started : (xs : List ℕ) (v a b : ℕ) → Turns xs v a (a + (b - a)) (bisect (b - a) xs v a b)
unfolding bisect
started xs v a b = go (b - a) refl
  where
    go : (n : ℕ) → b - a ≡ n → Turns xs v a (a + n) (bisect n xs v a b)
    go zero e = (0, omega arith, refl)
    go (suc n) e = let d : b ≡ a + suc n = omega arith in subst (λ (z : ℕ). Turns xs v a z (bisect (suc n) xs v a b)) d (suc n, omega arith, refl)

module _ (xs : List ℕ) (v a b p : ℕ) where
  pub go_right : a < b → Turns xs v a b p → get_or xs (mid a b) 0 < v → Turns xs v (mid a b + 1) b p
  unfolding bisect
  go_right more (zero, l, e) low = absurd (omega arith)
  go_right more (suc k, l, e) low = (k, omega arith, simp (lt-ltb a b more, lt-ltb (get_or xs (mid a b) 0) v low) at e)

  pub go_left : a < b → Turns xs v a b p → v ≤ get_or xs (mid a b) 0 → Turns xs v a (mid a b) p
  unfolding bisect
  go_left more (zero, l, e) high = absurd (omega arith)
  go_left more (suc k, l, e) high = (k, omega arith, simp (lt-ltb a b more, le-ltb (get_or xs (mid a b) 0) v high) at e)

  pub ended : b ≤ a → Turns xs v a b p → a ≡ p
  unfolding bisect
  ended l (zero, _, e) = e
  ended l (suc k, _, e) = simp (le-ltb a b l) at e

-- where an element that is at least v has none below v behind it, the search finds the first
module _ (xs : List ℕ) (v : ℕ) where
  abbrev pub reached : ℕ → Bool
  reached i = leb v (get_or xs i 0)

  module _ (stays : (i j : ℕ) → i ≤ j → j < length xs → reached i ≡ true → reached j ≡ true) where
    abbrev Finds : ℕ → Type 0
    Finds k = (a b : ℕ) → Cut reached (length xs) a b → b - a ≤ k → bisect k xs v a b ≡ seek reached 0 (length xs)

    turn : (k : ℕ) → Finds k → Finds (suc k)
    unfolding bisect
    turn k more a b c l = go (ltb a b) refl (ltb (get_or xs (mid a b) 0) v) refl
      where
        go : (t : Bool) → ltb a b ≡ t → (u : Bool) → ltb (get_or xs (mid a b) 0) v ≡ u → cond t (cond u (bisect k xs v (mid a b + 1) b) (bisect k xs v a (mid a b))) a ≡ seek reached 0 (length xs)
        go true e true d =
            let o : a < b = ltb-true a b e in
            more (mid a b + 1) b (cut_up reached (length xs) stays a b (mid a b) c (omega arith) (omega arith) (lt-leb v (get_or xs (mid a b) 0) (ltb-true (get_or xs (mid a b) 0) v d))) (omega arith)
        go true e false d =
            let o : a < b = ltb-true a b e in
            more a (mid a b) (cut_down reached (length xs) stays a b (mid a b) c (omega arith) (omega arith) (le-leb v (get_or xs (mid a b) 0) (ltb-false (get_or xs (mid a b) 0) v d))) (omega arith)
        go false e u d = cut_end reached (length xs) a b c (ltb-false a b e)

    finds : (k : ℕ) → Finds k
    unfolding bisect
    finds zero a b c l = cut_end reached (length xs) a b c (omega arith)
    finds (suc k) a b c l = turn k (finds k) a b c l

    pub bisect_seeks : bisect (length xs - 0) xs v 0 (length xs) ≡ seek reached 0 (length xs)
    bisect_seeks = finds (length xs - 0) 0 (length xs) (cut-start reached (length xs)) (omega arith)

-- up to a place in the list it is the search to there
pub lower_bound_is : (xs : List ℕ) (lo hi v : ℕ) → hi ≤ length xs → lower_bound xs lo hi v ≡ bisect (hi - lo) xs v lo hi
unfolding lower_bound
lower_bound_is xs lo hi v h = let e : min hi (length xs) ≡ hi = omega arith in rw e
