-- Laws of the lookback part and the lower median, by the tests that the code makes. Assumes nothing.
use Rattle.std.proofs.Common.{◌≡◌, ℕ, zero, suc, ◌-◌, ◌≤◌, min, max, Bool, true, false, cond, leb, List, [], ◌∷◌, length, get_or, take, drop, sym, refl, ap, ◌∙◌, not-suc-le-zero, arith, length-take, take_all, leb-false, leb-true}
use native.Mathlib.Decide.{dec_le}
use native.Mathlib.Nat.{sub-zero}
use lib.Seq.{take-nil}
use Rattle.slices.specs.Sorted.{insert, sorted}
use Rattle.rbitcoin_mempool.specs.Answer.{rate, refusal}
use Rattle.rbitcoin_mempool.specs.Median.{lookback_part, lower_median, median_of}

drop-take : {A : Type 0} (f t : ℕ) (l : List A) → f ≤ t → drop f (take t l) ≡ take (t - f) (drop f l)
drop-take zero t l h = rw (sub-zero t)
drop-take (suc f) zero l h = absurd (not-suc-le-zero h)
drop-take (suc f) (suc t) [] h = sym (take-nil (suc t - suc f))
drop-take (suc f) (suc t) (x ∷ l) h = let e : suc t - suc f ≡ t - f = omega arith in rw e (drop-take f t l (omega arith))

-- the first t, cut at the list's end
first-cut : (hs : List ℕ) (t : ℕ) → take (min t (length hs)) hs ≡ take t hs
first-cut hs t = go (dec_le t (length hs))
  where
    go : Dec (t ≤ length hs) → take (min t (length hs)) hs ≡ take t hs
    go (yes h) = let e : min t (length hs) ≡ t = omega arith in rw e
    go (no n) = take_all (min t (length hs)) hs (omega arith) ∙ sym (take_all t hs (omega arith))

module _ (hs : List ℕ) (t n : ℕ) where
  -- from `first` to `end`
  pub lookback-is : (end first : ℕ) → end ≡ min t (length hs) → first ≡ end - n → take (end - first) (drop first hs) ≡ lookback_part hs t n
  unfolding lookback_part
  lookback-is end first p q =
      let e : length (take t hs) - n ≡ first = omega (arith, length-take t hs) in
      sym (drop-take first end hs (omega arith))
      ∙ ap (λ m. drop first (take m hs)) p
      ∙ ap (drop first) (first-cut hs t)
      ∙ sym (ap (λ m. drop m (take t hs)) e)

  -- for callers: a lookback that lies in the list
  pub lookback-inside : n ≤ t → t ≤ length hs → lookback_part hs t n ≡ take n (drop (t - n) hs)
  lookback-inside h g =
      let e : t - (t - n) ≡ n = omega arith in
      sym (lookback-is t (t - n) (omega arith) refl) ∙ rw e

pub three : (a b c : ℕ) → max (min a b) (min (max a b) c) ≡ get_or (sorted (a ∷ b ∷ c ∷ [])) 1 0
unfolding sorted insert
three a b c = go (leb b c) refl
  where
    go : (t : Bool) → leb b c ≡ t → max (min a b) (min (max a b) c) ≡ get_or (insert a (cond t (b ∷ c ∷ []) (c ∷ b ∷ []))) 1 0
    go true p = by (leb a b) (leb a c) refl refl
      where
        by : (t u : Bool) → leb a b ≡ t → leb a c ≡ u → max (min a b) (min (max a b) c) ≡ get_or (cond t (a ∷ b ∷ c ∷ []) (b ∷ cond u (a ∷ c ∷ []) (c ∷ a ∷ []))) 1 0
        by true u q r = omega (arith, leb-true b c p, leb-true a b q)
        by false true q r = omega (arith, leb-true b c p, leb-false a b q, leb-true a c r)
        by false false q r = omega (arith, leb-true b c p, leb-false a b q, leb-false a c r)
    go false p = by (leb a c) (leb a b) refl refl
      where
        by : (t u : Bool) → leb a c ≡ t → leb a b ≡ u → max (min a b) (min (max a b) c) ≡ get_or (cond t (a ∷ c ∷ b ∷ []) (c ∷ cond u (a ∷ b ∷ []) (b ∷ a ∷ []))) 1 0
        by true u q r = omega (arith, leb-false b c p, leb-true a c q)
        by false true q r = omega (arith, leb-false b c p, leb-false a c q, leb-true a b r)
        by false false q r = omega (arith, leb-false b c p, leb-false a c q, leb-false a b r)

pub median-three : (xs : List ℕ) → length xs ≡ 3 → get_or (sorted (get_or xs 0 0 ∷ get_or xs 1 0 ∷ get_or xs 2 0 ∷ [])) 1 0 ≡ median_of xs
unfolding median_of
median-three [] e = absurd (let f : ⊥ = omega arith in f)
median-three (a ∷ []) e = absurd (let f : ⊥ = omega arith in f)
median-three (a ∷ b ∷ []) e = absurd (let f : ⊥ = omega arith in f)
median-three (a ∷ b ∷ c ∷ []) e = refl
median-three (a ∷ b ∷ c ∷ d ∷ xs) e = absurd (let f : ⊥ = omega arith in f)

pub median-none : (xs : List ℕ) → length xs ≡ 0 → refusal 6 ≡ lower_median xs
unfolding lower_median
median-none [] e = refl
median-none (x ∷ xs) e = absurd (let f : ⊥ = omega arith in f)

pub median-some : (xs : List ℕ) → (length xs ≡ 0 → ⊥) → rate (median_of xs) ≡ lower_median xs
unfolding lower_median
median-some [] n = absurd (n refl)
median-some (x ∷ xs) n = refl
