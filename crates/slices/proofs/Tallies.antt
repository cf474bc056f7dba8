-- Tallies of one list by several tests, and of parts of it. Assumes nothing.
use Rattle.std.proofs.Common.{◌≡◌, ℕ, suc, ◌+◌, ◌<◌, ◌≤◌, Bool, true, false, List, [], ◌∷◌, ◌++◌, length, get_or, take, drop, refl, ap, ◌∙◌, add-one, arith, take-append-drop, take-suc}
use mathlib.Core.Path.{fun_ext}
use lib.Dec.{leb-suc-suc, leb-suc-zero}
use Rattle.std.proofs.lemmas.Bool.Decides.{nat_tests}
use Rattle.slices.specs.Sorted.{tally, at_most, below, equal}

pub tally_append : (p : ℕ → Bool) (xs ys : List ℕ) → tally p (xs ++ ys) ≡ tally p xs + tally p ys
unfolding tally
tally_append p [] ys = omega arith
tally_append p (x ∷ xs) ys = omega (arith, tally_append p xs ys)

pub tally-le : (p : ℕ → Bool) (xs : List ℕ) → tally p xs ≤ length xs
unfolding tally
tally-le p [] = grind arith
tally-le p (x ∷ xs) = grind (arith, tally-le p xs)

-- where each element that passes p passes q
pub tally_each : (p q : ℕ → Bool) (xs : List ℕ) → ((j : ℕ) → j < length xs → p (get_or xs j 0) ≡ true → q (get_or xs j 0) ≡ true) → tally p xs ≤ tally q xs
unfolding tally
tally_each p q [] h = grind arith
tally_each p q (x ∷ xs) h = grind (arith, h 0, tally_each p q xs (λ j r. h (suc j) (omega arith)))

pub tally_mono : (p q : ℕ → Bool) (xs : List ℕ) → ((x : ℕ) → p x ≡ true → q x ≡ true) → tally p xs ≤ tally q xs
tally_mono p q xs h = tally_each p q xs (λ j r. h (get_or xs j 0))

pub at_most-split : (v : ℕ) (xs : List ℕ) → at_most v xs ≡ below v xs + equal v xs
unfolding tally
at_most-split v [] = refl
at_most-split v (x ∷ xs) = grind (arith, nat_tests, at_most-split v xs)

module _ (p : ℕ → Bool) (xs : List ℕ) (i : ℕ) where
  pub tally-take : tally p (take i xs) ≤ tally p xs
  tally-take = omega (arith, ap (tally p) (take-append-drop i xs), tally_append p (take i xs) (drop i xs))

  pub take-yes : i < length xs → p (get_or xs i 0) ≡ true → tally p (take (i + 1) xs) ≡ tally p (take i xs) + 1
  unfolding tally
  take-yes r h = rw (add-one i, take-suc xs i 0 r) (tally_append p (take i xs) (get_or xs i 0 ∷ []) ∙ rw h)

  pub take_no : i < length xs → p (get_or xs i 0) ≡ false → tally p (take (i + 1) xs) ≡ tally p (take i xs)
  unfolding tally
  take_no r h = rw (add-one i, take-suc xs i 0 r) (tally_append p (take i xs) (get_or xs i 0 ∷ []) ∙ rw h (omega arith))

pub none_below : (xs : List ℕ) → below 0 xs ≡ 0
unfolding tally
none_below [] = refl
none_below (x ∷ xs) = rw (leb-suc-zero x) (omega (arith, none_below xs))

pub below_suc : (v : ℕ) (xs : List ℕ) → below (suc v) xs ≡ at_most v xs
below_suc v xs = ap (λ p. tally p xs) (fun_ext (λ x. leb-suc-suc x v))
