-- Laws of moved runs: the length, every element, a run in two parts, and whether the runs fit. Assumes nothing.
use Rattle.std.proofs.Common.{◌≡◌, ℕ, suc, ◌+◌, ◌-◌, ◌<◌, ◌≤◌, Bool, true, false, cond, List, [], ◌∷◌, ◌++◌, length, get_or, take, drop, set, sym, refl, ap, ◌∙◌, append_assoc, add-one, arith, take-append-drop, length-take-le, drop-cons, take-suc, drop-drop, take_at, le-leb}
use Rattle.std.proofs.lemmas.Bool.Decides.{nat_tests}
use Rattle.std.proofs.lemmas.Grind.{common_steps}
use Rattle.std.proofs.lemmas.List.{ext_get_or}
use lib.Seq.{set_at, append_snoc}
use Rattle.slices.specs.Lists.{moved, both_fit, copy_within, copy_front}

module _ {A : Type 0} where
  pub length_moved : (xs : List A) (to from n : ℕ) → to + n ≤ length xs → from + n ≤ length xs → length (moved xs to from n) ≡ length xs
  unfolding moved
  length_moved xs to from n h g = grind (arith, common_steps)

  module _ (xs : List A) (to from n : ℕ) (z : A) (h : to + n ≤ length xs) (g : from + n ≤ length xs) where
    pub moved-below : (i : ℕ) → i < to → get_or (moved xs to from n) i z ≡ get_or xs i z
    unfolding moved
    moved-below i b = grind (arith, common_steps)

    pub moved_in : (i : ℕ) → i < n → get_or (moved xs to from n) (to + i) z ≡ get_or xs (from + i) z
    unfolding moved
    moved_in i b = grind (arith, common_steps)

    pub moved-above : (i : ℕ) → to + n ≤ i → get_or (moved xs to from n) i z ≡ get_or xs i z
    unfolding moved
    moved-above i b = grind (arith, common_steps)

    -- the elements that were moved
    pub moved_part : take n (drop to (moved xs to from n)) ≡ take n (drop from xs)
    unfolding moved
    moved_part = grind (arith, common_steps)

  -- lists with the same elements
  same : (xs ys : List A) → length xs ≡ length ys → ((z : A) (i : ℕ) → i < length xs → get_or xs i z ≡ get_or ys i z) → xs ≡ ys
  same [] [] h e = refl
  same [] (y ∷ ys) h e = absurd (omega arith)
  same (x ∷ xs) ys h e = ext_get_or x (x ∷ xs) ys h (e x)

  module _ (xs : List A) (to from n : ℕ) (z : A) (i : ℕ) where
    inside : to + n ≤ length xs → from + n ≤ length xs → to ≤ i → i < to + n → get_or (moved xs to from n) i z ≡ get_or xs (from + (i - to)) z
    inside h g a b =
        let e : to + (i - to) ≡ i = omega arith in
        ap (λ (k : ℕ). get_or (moved xs to from n) k z) (sym e) ∙ moved_in xs to from n z h g (i - to) (omega arith)

    before : to + n ≤ length xs → from + n ≤ length xs → i < to → get_or (moved xs to from n) i z ≡ get_or xs i z
    before h g a = moved-below xs to from n z h g i a

    behind : to + n ≤ length xs → from + n ≤ length xs → to + n ≤ i → get_or (moved xs to from n) i z ≡ get_or xs i z
    behind h g a = moved-above xs to from n z h g i a

  -- a run in two parts: going down the front one first, going up the rear one first
  module _ (xs : List A) (to from j t f k : ℕ) (a : t ≡ to + j) (b : f ≡ from + j) where
    pub front_first : to ≤ from → f + k ≤ length xs → moved (moved xs to from j) t f k ≡ moved xs to from (j + k)
    front_first h g =
        let l = length_moved xs to from j (omega arith) (omega arith) in
        let m = length_moved (moved xs to from j) t f k (omega arith) (omega arith) in
        let n = length_moved xs to from (j + k) (omega arith) (omega arith) in
        same _ _ (m ∙ l ∙ sym n) (λ z i r. grind (arith, inside, before, behind, l, m, n))

    pub rear_first : from ≤ to → t + k ≤ length xs → moved (moved xs t f k) to from j ≡ moved xs to from (j + k)
    rear_first h g =
        let l = length_moved xs t f k (omega arith) (omega arith) in
        let m = length_moved (moved xs t f k) to from j (omega arith) (omega arith) in
        let n = length_moved xs to from (j + k) (omega arith) (omega arith) in
        same _ _ (m ∙ l ∙ sym n) (λ z i r. grind (arith, inside, before, behind, l, m, n))

-- where both runs fit
module _ (len to from n : ℕ) where
  pub fitting : both_fit len to from n ≡ true → (to + n ≤ len) × (from + n ≤ len)
  unfolding both_fit
  fitting e = grind (arith, nat_tests)

module _ {A : Type 0} (xs : List A) (to from n : ℕ) where
  pub copy-none : both_fit (length xs) to from n ≡ false → xs ≡ copy_within xs to from n
  unfolding copy_within
  copy-none e = sym (rw e)

  pub copy_done : both_fit (length xs) to from n ≡ true → moved xs to from n ≡ copy_within xs to from n
  unfolding copy_within
  copy_done e = sym (rw e)

  -- a run that stays where it is
  moved_same : moved xs to to n ≡ xs
  unfolding moved
  moved_same =
      append_assoc (take to xs) (take n (drop to xs)) (drop (to + n) xs)
      ∙ ap (λ (ys : List A). take to xs ++ (take n (drop to xs) ++ ys)) (sym (drop-drop n to xs))
      ∙ ap (λ (ys : List A). take to xs ++ ys) (take-append-drop n (drop to xs))
      ∙ take-append-drop to xs

  pub copy-same : to ≡ from → xs ≡ copy_within xs to from n
  unfolding copy_within
  copy-same e = rw (sym e) (go (both_fit (length xs) to to n))
    where
      go : (b : Bool) → xs ≡ cond b (moved xs to to n) xs
      go true = sym moved_same
      go false = refl

  -- for callers: runs that fit are moved
  pub copied : to + n ≤ length xs → from + n ≤ length xs → copy_within xs to from n ≡ moved xs to from n
  unfolding copy_within both_fit
  copied h g = grind (arith, nat_tests)

-- for the proof of `copy_within`
pub ruleset copy_laws = (fitting, copy_done, copy-none, copy-same, front_first, rear_first)

-- a list copied to the front of another, for callers: one more element, and what stands in front
module _ {A : Type 0} (xs ys : List A) where
  pub front_turn : (zs : List A) (i : ℕ) (z : A) → i < length ys → i < length xs → zs ≡ take i ys ++ drop i xs → set zs i (get_or ys i z) ≡ take (i + 1) ys ++ drop (i + 1) xs
  front_turn zs i z r q e =
      let l : length (take i ys) ≡ i = length-take-le i ys (omega arith) in
      ap (λ l. set l i (get_or ys i z)) (e ∙ ap (λ l. take i ys ++ l) (drop-cons xs i z q))
      ∙ set_at (take i ys) (get_or xs i z) (drop (suc i) xs) (get_or ys i z) i l
      ∙ sym (append_snoc (take i ys) (get_or ys i z) (drop (suc i) xs))
      ∙ rw (add-one i, take-suc ys i z r)

  pub front-copied : length ys ≤ length xs → take (length ys) (copy_front xs ys) ≡ ys
  unfolding copy_front
  front-copied h = rw (le-leb (length ys) (length xs) h) (take_at ys (drop (length ys) xs) (length ys) refl)
