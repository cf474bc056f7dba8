-- Where a target stands among depths that never descend, and what the lookup answers there, for rates of any kind. Assumes nothing.
use Rattle.std.proofs.Common.{◌≡◌, ℕ, zero, suc, ◌-◌, ◌<◌, ◌≤◌, Bool, true, false, ltb, leb, List, length, get_or, take, sym, refl, ap, inl, inr, le_trans, eq-or-lt_of_le, arith, ltb-false, ltb-true, le-ltb, lt-ltb, eq-eqb, ne_eqb, le-leb, leb-false, leb-true}
use mathlib.Core.Option.{Option, none}
use borrow.Author.Tests.{lt-leb}
use Rattle.slices.specs.Search.{seek}
use Rattle.slices.proofs.Seeking.{seek_is, sought}
use Rattle.rbitcoin_mempool.specs.Target.{last_there, between, at_index, at_target}

abbrev pub Ascending : List ℕ → Type 0
Ascending ds = (i j : ℕ) → i ≤ j → j < length ds → get_or ds i 0 ≤ get_or ds j 0

-- i is the first depth at or above the target
pub record First (ds : List ℕ) (t i : ℕ) : Type 0 where
  pub within : i < length ds
  pub before : (k : ℕ) → k < i → get_or ds k 0 < t
  pub reached : t ≤ get_or ds i 0

pub data Place (ds : List ℕ) (t : ℕ) : Type 0 where
  past : 0 < length ds → get_or ds (length ds - 1) 0 < t → Place ds t
  exact : (i : ℕ) → First ds t i → get_or ds i 0 ≡ t → Place ds t
  outside : First ds t 0 → t < get_or ds 0 0 → Place ds t
  inside : (i : ℕ) → First ds t (suc i) → t < get_or ds (suc i) 0 → Place ds t

module _ {A : Type 0} (line : ℕ → A → ℕ → A → A) (ds : List ℕ) (rs : List (Option A)) (t : ℕ) where
  abbrev pub answer_at : Place ds t → Option A
  answer_at (past n l) = last_there rs
  answer_at (exact i f e) = get_or rs i none
  answer_at (outside f l) = none
  answer_at (inside i f l) = between (λ a b. line (get_or ds i 0) a (get_or ds (suc i) 0) b) (last_there (take (suc i) rs)) (get_or rs i none) (get_or rs (suc i) none)

  module _ (up : Ascending ds) where
    not-past : (i : ℕ) → First ds t i → ltb (get_or ds (length ds - 1) 0) t ≡ false
    not-past i f = le-ltb _ _ (le_trans f.reached (up i (length ds - 1) (omega (arith, f.within)) (omega (arith, f.within))))

    index : (i : ℕ) → First ds t i → seek (λ k. leb t (get_or ds k 0)) 0 (length ds) ≡ i
    index i f =
        sym
        (seek_is (λ k. leb t (get_or ds k 0)) 0 (length ds) i (omega arith) (omega (arith, f.within)) (λ k a b. lt-leb _ _ (f.before k b)) (λ l. le-leb _ _ f.reached))

    pub answer-is : (p : Place ds t) → at_target line ds rs t ≡ answer_at p
    unfolding at_target at_index
    answer-is (past n l) = rw (lt-ltb _ _ l)
    answer-is (exact i f e) = rw (not-past i f, index i f, eq-eqb _ _ e)
    answer-is (outside f l) = rw (not-past 0 f, index 0 f, ne_eqb (get_or ds 0 0) t (λ q. omega arith))
    answer-is (inside i f l) =
        let e : suc i - 1 ≡ i = omega arith in
        rw (not-past (suc i) f, index (suc i) f, ne_eqb (get_or ds (suc i) 0) t (λ q. omega arith), ne_eqb (suc i) 0 (λ q. omega arith))
        (ap (λ (z : ℕ). between (λ a b. line (get_or ds z 0) a (get_or ds (suc i) 0) b) (last_there (take (suc i) rs)) (get_or rs z none) (get_or rs (suc i) none)) e)

-- ---- every target has a place
module _ (ds : List ℕ) (t : ℕ) (n : 0 < length ds) where
  at_index_lem : (i : ℕ) → First ds t i → Place ds t
  at_index_lem i f = elim (eq-or-lt_of_le f.reached) [
    | inl e ↦ exact i f (sym e)
    | inr l ↦ below i f l
  ]
    where
      below : (i : ℕ) → First ds t i → t < get_or ds i 0 → Place ds t
      below zero f l = outside f l
      below (suc i) f l = inside i f l

  pub place : Place ds t
  place = go (ltb (get_or ds (length ds - 1) 0) t) refl
    where
      go : (b : Bool) → ltb (get_or ds (length ds - 1) 0) t ≡ b → Place ds t
      go true e = past n (ltb-true _ _ e)
      go false e =
          let p : ℕ → Bool = λ k. leb t (get_or ds k 0) in
          let s = sought p 0 (length ds) in
          let r = seek p 0 (length ds) in
          let w : r < length ds = elim (eq-or-lt_of_le s.to) [
            | inl q ↦
                let last = get_or ds (length ds - 1) 0 in
                absurd (omega (arith, leb-false t last (s.before (length ds - 1) (omega arith) (omega arith)), ltb-false last t e))
            | inr l ↦ omega arith
          ] in
          at_index_lem r (record { within = w; before = λ k h. leb-false t (get_or ds k 0) (s.before k (omega arith) h); reached = leb-true t (get_or ds r 0) (s.here (omega arith)) })
