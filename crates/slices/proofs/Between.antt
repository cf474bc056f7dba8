-- The elements of a list from lo to hi: how they are collected, and that the element of a rank is one of them. Assumes nothing.
use Rattle.std.proofs.Common.{◌≡◌, ℕ, zero, suc, ◌+◌, ◌-◌, ◌%◌, ◌^◌, ◌<◌, ◌≤◌, Bool, true, false, cond, ◌&&◌, ltb, leb, List, [], ◌∷◌, ◌++◌, length, get_or, take, drop, set, sym, refl, ap, ◌∙◌, append_assoc, append-nil, zero-le, le_of_suc-le-suc, not-suc-le-zero, le_antisymm, add-one, arith, length-set, drop_of_length-le, drop-cons, take-suc-set, le-ltb, lt-ltb, le-leb, leb-false, leb-true}
use lib.Seq.{take-set-le}
use Rattle.std.proofs.lemmas.Bool.Decides.{nat_tests}
use borrow.Author.Tests.{lt-leb}
use Rattle.slices.specs.Sorted.{sorted, tally, at_most, below, in_range}
use Rattle.slices.proofs.Sorting.{at_most_all, kth-at_most, kth-above, kth-least, kth_most, kth-reached}
use Rattle.slices.proofs.Tallies.{below_suc, tally-le}

-- the distance from lo, modulo 2^64, tells
pub one_test : (x lo hi d : ℕ) → d < 2 ^ 64 → lo ≤ hi → hi < 2 ^ 64 → (d + lo) % 2 ^ 64 ≡ x → leb d (hi - lo) ≡ (leb lo x && leb x hi)
one_test x lo hi d f h g e = grind (arith, nat_tests)

module _ (lo hi x : ℕ) (xs : List ℕ) where
  in_front : (leb lo x && leb x hi) ≡ true → in_range lo hi (x ∷ xs) ≡ x ∷ in_range lo hi xs
  unfolding in_range
  in_front e = rw e

  passed : (leb lo x && leb x hi) ≡ false → in_range lo hi (x ∷ xs) ≡ in_range lo hi xs
  unfolding in_range
  passed e = rw e

-- ---- after i elements: those from lo to hi stand in front, and there is room for the others
pub record Collecting (lo hi : ℕ) (xs start out : List ℕ) (n i : ℕ) : Type 0 where
  pub size : length out ≡ length start
  pub done : take n out ++ in_range lo hi (drop i xs) ≡ in_range lo hi xs
  pub count : n + length (in_range lo hi (drop i xs)) ≡ length (in_range lo hi xs)

module _ (lo hi : ℕ) (xs start out : List ℕ) (n i : ℕ) (h : Collecting lo hi xs start out n i) where
  module _ (room : length (in_range lo hi xs) < length start) (r : i < length xs) where
    abbrev x : ℕ
    x = get_or xs i 0

    from : in_range lo hi (drop i xs) ≡ in_range lo hi (x ∷ drop (i + 1) xs)
    from = rw (add-one i) (ap (in_range lo hi) (drop-cons xs i 0 r))

    pub collect_in : (leb lo x && leb x hi) ≡ true → Collecting lo hi xs start (set out n x) (n + 1) (i + 1)
    collect_in e =
        record {
          size = length-set out n x ∙ h.size;
          done =
              rw (add-one n, take-suc-set out n x (omega (arith, h.size, h.count)))
              (append_assoc (take n out) (x ∷ []) _ ∙ ap (λ l. take n out ++ l) (sym step) ∙ h.done);
          count = omega (arith, h.count, ap length step);
        }
      where
        step : in_range lo hi (drop i xs) ≡ x ∷ in_range lo hi (drop (i + 1) xs)
        step = from ∙ in_front lo hi x _ e

    pub collect-past : (leb lo x && leb x hi) ≡ false → Collecting lo hi xs start (set out n x) n (i + 1)
    collect-past e =
        record {
          size = length-set out n x ∙ h.size;
          done = rw (take-set-le n out n x (omega arith)) (ap (λ l. take n out ++ l) (sym step) ∙ h.done);
          count = omega (arith, h.count, ap length step);
        }
      where
        step : in_range lo hi (drop i xs) ≡ in_range lo hi (drop (i + 1) xs)
        step = from ∙ passed lo hi x _ e

  module _ (l : length xs ≤ i) where
    none_left : in_range lo hi (drop i xs) ≡ []
    unfolding in_range
    none_left = ap (in_range lo hi) (drop_of_length-le xs l)

    pub collect-count : n ≡ length (in_range lo hi xs)
    collect-count = omega (arith, h.count, ap length none_left)

    pub collect_end : take n out ≡ in_range lo hi xs
    collect_end = sym (append-nil (take n out)) ∙ sym (ap (λ k. take n out ++ k) none_left) ∙ h.done

-- ---- ranks
kth-from : (xs : List ℕ) (lo k : ℕ) → below lo xs + k < length xs → lo ≤ get_or (sorted xs) (below lo xs + k) 0
kth-from xs zero k r = zero-le
kth-from xs (suc w) k r = kth-above xs (below (suc w) xs + k) w r (omega (arith, below_suc w xs))

module _ (lo hi : ℕ) (ordered : lo ≤ hi) where
  each : (xs : List ℕ) (j : ℕ) → j < length (in_range lo hi xs) → (lo ≤ get_or (in_range lo hi xs) j 0) × (get_or (in_range lo hi xs) j 0 ≤ hi)
  unfolding in_range
  each [] j r = absurd (not-suc-le-zero r)
  each (x ∷ xs) j r = go (leb lo x) (leb x hi) refl refl j (λ i. each xs i) r
    where
      go : (a b : Bool) → leb lo x ≡ a → leb x hi ≡ b → (j : ℕ) → ((i : ℕ) → i < length (in_range lo hi xs) → (lo ≤ get_or (in_range lo hi xs) i 0) × (get_or (in_range lo hi xs) i 0 ≤ hi)) → j < length (cond (a && b) (x ∷ in_range lo hi xs) (in_range lo hi xs))
          → (lo ≤ get_or (cond (a && b) (x ∷ in_range lo hi xs) (in_range lo hi xs)) j 0) × (get_or (cond (a && b) (x ∷ in_range lo hi xs) (in_range lo hi xs)) j 0 ≤ hi)
      go true true p q zero f r = (leb-true lo x p, leb-true x hi q)
      go true true p q (suc j) f r = f j (le_of_suc-le-suc r)
      go true false p q j f r = f j r
      go false b p q j f r = f j r

  -- those at most v of the list are those below lo and those at most v between
  split : (v : ℕ) → lo ≤ v → v ≤ hi → (xs : List ℕ) → below lo xs + at_most v (in_range lo hi xs) ≡ at_most v xs
  unfolding in_range tally
  split v l m [] = refl
  split v l m (x ∷ xs) = go (leb lo x) (leb x hi) refl refl (split v l m xs)
    where
      go : (a b : Bool) → leb lo x ≡ a → leb x hi ≡ b → below lo xs + at_most v (in_range lo hi xs) ≡ at_most v xs
          → cond (ltb x lo) 1 0 + below lo xs + at_most v (cond (a && b) (x ∷ in_range lo hi xs) (in_range lo hi xs)) ≡ cond (leb x v) 1 0 + at_most v xs
      go true true p q e = rw (le-ltb x lo (leb-true lo x p)) (omega arith)
      go true false p q e = rw (le-ltb x lo (leb-true lo x p), lt-leb x v (omega (arith, leb-false x hi q))) (omega arith)
      go false b p q e = rw (lt-ltb x lo (leb-false lo x p), le-leb x v (omega (arith, leb-false lo x p))) (omega arith)

  pub between-length : (xs : List ℕ) → below lo xs + length (in_range lo hi xs) ≡ at_most hi xs
  between-length xs = omega (arith, split hi ordered (omega arith) xs, at_most_all hi (in_range lo hi xs) (λ j r. (each xs j r).1))

  -- the element at k between is that many places past those below lo
  pub kth-between : (xs : List ℕ) (k : ℕ) → k < length (in_range lo hi xs) → get_or (sorted (in_range lo hi xs)) k 0 ≡ get_or (sorted xs) (below lo xs + k) 0
  kth-between xs k r =
      le_antisymm
      (kth-at_most ys k b (omega (arith, kth-reached xs (below lo xs + k) inside, split b low high xs)))
      (kth-at_most xs (below lo xs + k) a (omega (arith, kth-reached ys k r, split a (kth-least ys k lo r (λ j q. (each xs j q).0)) (kth_most ys k hi r (λ j q. (each xs j q).1)) xs)))
    where
      ys : List ℕ
      ys = in_range lo hi xs

      a : ℕ
      a = get_or (sorted ys) k 0

      b : ℕ
      b = get_or (sorted xs) (below lo xs + k) 0

      below_all : below lo xs + k < at_most hi xs
      below_all = omega (arith, between-length xs)

      inside : below lo xs + k < length xs
      inside = omega (arith, below_all, tally-le (λ x. leb x hi) xs)

      high : b ≤ hi
      high = kth-at_most xs (below lo xs + k) hi below_all

      low : lo ≤ b
      low = kth-from xs lo k inside
