-- The first target of n blocks, as a search over the tracked targets finds it. Assumes nothing.
use Rattle.std.proofs.Common.{◌≡◌, ℕ, suc, ◌+◌, ◌<◌, ◌≤◌, Bool, true, false, not, ◌||◌, cond, eqb, ltb, List, [], ◌∷◌, ◌++◌, length, get_or, take, sym, refl, ap, ◌∙◌, arith, length-take-le, get_or-take, ltb-false, ltb-true, Some, None}
use Rattle.std.specs.declared.option.Option.{Option}
use Rattle.rbitcoin_mempool.specs.Scan.{target_found}
use Rattle.std.proofs.lemmas.List.Folds.{list_any-append}
use Rattle.std.specs.List.{list_any, position_or_len, prefix_len}
use Rattle.std.proofs.lemmas.Grind.{common_steps}
use Rattle.std.proofs.lemmas.List.Sums.{prefix_len-le-length, prefix_len_passes, prefix_len_stops}
use Rattle.slices.specs.Search.{seek}
use Rattle.slices.proofs.Seeking.{seek_is}
use Rattle.rbitcoin_mempool.specs.Pairs.{ahead_of}
use Rattle.rbitcoin_mempool.specs.Windows.{find_target}
use Rattle.rbitcoin_mempool.specs.declared.fee_analog.history.AnalogHistory.{AnalogHistory}

flipped : (b c : Bool) → not b ≡ c → b ≡ not c
flipped true c e = rw (← e)
flipped false c e = rw (← e)

or-false : (b : Bool) → (b || false) ≡ b
or-false true = refl
or-false false = refl

first_taken : (test : ℕ → Bool) (xs : List ℕ) (m : ℕ) → m ≤ length xs → position_or_len test (take m xs) ≡ seek (λ d. test (get_or xs d 0)) 0 m
first_taken test xs m h =
    let p : ℕ → Bool = λ x. not (test x) in
    let n : length (take m xs) ≡ m = length-take-le m xs h in
    let r = prefix_len p (take m xs) in
    let l : r ≤ m = omega (arith, prefix_len-le-length p (take m xs)) in
    seek_is _ 0 m r (omega arith) (omega arith)
    (λ k a b. ap (λ x. test x) (sym (get_or-take m xs k 0 (omega arith))) ∙ flipped _ _ (prefix_len_passes p (take m xs) k 0 b))
    (λ b. ap (λ x. test x) (sym (get_or-take m xs r 0 (omega arith))) ∙ flipped _ _ (prefix_len_stops p (take m xs) 0 (omega arith)))

-- whether one passes, and one more
pub some_more : (test : ℕ → Bool) (xs : List ℕ) (x : ℕ) (a b : Bool) → a ≡ list_any test xs → b ≡ (a || test x) → b ≡ list_any test (xs ++ (x ∷ []))
some_more test xs x a b e f = f ∙ rw (e, list_any-append test xs (x ∷ [])) (ap (λ c. list_any test xs || c) (sym (or-false (test x))))

some_first : (test : ℕ → Bool) (xs : List ℕ) → list_any test xs ≡ ltb (position_or_len test xs) (length xs)
some_first test [] = refl
some_first test (x ∷ xs) = go (test x) (some_first test xs)
  where
    go : (b : Bool) → list_any test xs ≡ ltb (position_or_len test xs) (length xs) → (b || list_any test xs) ≡ ltb (cond (not b) (1 + position_or_len test xs) 0) (suc (length xs))
    go true e = grind (arith, common_steps)
    go false e = grind (arith, common_steps)

module _ (s : AnalogHistory) (n : ℕ) where
  abbrev pub wanted : ℕ → Bool
  wanted x = eqb (ahead_of x) (ahead_of n)

  abbrev pub tracked : List ℕ
  tracked = take s.tracked s.targets

  module _ (long : length s.targets ≡ 16) (few : s.tracked ≤ 16) where
    pub tracked_length : length tracked ≡ s.tracked
    tracked_length = length-take-le s.tracked s.targets (omega arith)

    pub first_is : position_or_len wanted tracked ≡ find_target s n
    unfolding find_target
    first_is = first_taken wanted s.targets s.tracked (omega arith)

    pub some_is : list_any wanted tracked ≡ ltb (find_target s n) s.tracked
    some_is = some_first wanted tracked ∙ rw (first_is, tracked_length)

-- what the search answers
module _ (s : AnalogHistory) (n : ℕ) where
  pub found_at : (d : ℕ) → Some d ≡ target_found s n → (find_target s n ≡ d) × (find_target s n < s.tracked)
  found_at d e = go (ltb (find_target s n) s.tracked) refl e
    where
      go : (b : Bool) → ltb (find_target s n) s.tracked ≡ b → Some d ≡ cond b (Some (find_target s n)) None → (find_target s n ≡ d) × (find_target s n < s.tracked)
      go true b q = (cc, ltb-true _ _ b)
      go false b q = absurd (cc)

  pub found_none : ◌≡◌ {A = Option ℕ} None (target_found s n) → s.tracked ≤ find_target s n
  found_none e = go (ltb (find_target s n) s.tracked) refl e
    where
      go : (b : Bool) → ltb (find_target s n) s.tracked ≡ b → ◌≡◌ {A = Option ℕ} None (cond b (Some (find_target s n)) None) → s.tracked ≤ find_target s n
      go true b q = absurd (cc)
      go false b q = ltb-false _ _ b
