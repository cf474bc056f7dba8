-- The least fitting candidate, from the last one down. Assumes nothing.
use Rattle.std.proofs.Common.{◌≡◌, ℕ, zero, suc, ◌-◌, ◌<◌, ◌≤◌, min, Bool, true, false, cond, leb, List, [], ◌∷◌, length, get_or, drop, sym, refl, ◌∙◌, subst, true≢false, suc-le-suc, zero-le, le_trans, le_refl, le_of_suc-le-suc, not-suc-le-zero, arith, drop_of_length-le, drop-cons, eq-eqb, ne_eqb, leb-false, leb-true}
use native.Mathlib.Nat.{min-eq_left}
use mathlib.Core.Option.{Option, some}
use mathlib.Core.Option.{none as missing}
use Rattle.rbitcoin_mempool.specs.Answer.{Answer, rate, none, refusal, lesser}
use Rattle.rbitcoin_mempool.specs.Rates.{as_answer}
use Rattle.rbitcoin_mempool.specs.Exact.{least}
use Rattle.rbitcoin_mempool.specs.Capacity.{LeastFit, Unfit, Meant, fits, least_fitting, min_rate_for_capacity}

-- the candidates from i on, as the loop goes through them from the last one down
module _ (p : ℕ → ℕ → Bool) (cs ss : List ℕ) (e : length cs ≡ length ss) where
  pub search-start : none ≡ least_fitting p (drop (length cs) cs) (drop (length cs) ss)
  unfolding least_fitting
  search-start = let l : length cs ≤ length cs = omega arith in rw (drop_of_length-le cs l)

  module _ (i : ℕ) (above : 0 < i) (within : i ≤ length cs) (best : Option ℕ) (h : as_answer best ≡ least_fitting p (drop i cs) (drop i ss)) where
    one : least_fitting p (drop (i - 1) cs) (drop (i - 1) ss) ≡ cond (p (get_or cs (i - 1) 0) (get_or ss (i - 1) 0)) (lesser (get_or cs (i - 1) 0) (as_answer best)) (as_answer best)
    unfolding least_fitting
    one =
        let q : i ≡ suc (i - 1) = omega arith in
        rw (drop-cons cs (i - 1) 0 (omega arith), drop-cons ss (i - 1) 0 (omega arith), subst (λ (n : ℕ). as_answer best ≡ least_fitting p (drop n cs) (drop n ss)) q h)

    pub search-fits : p (get_or cs (i - 1) 0) (get_or ss (i - 1) 0) ≡ true → (o : Option ℕ) → o ≡ least min (some (get_or cs (i - 1) 0)) best → as_answer o ≡ least_fitting p (drop (i - 1) cs) (drop (i - 1) ss)
    search-fits f o m = rw (m, one, f) (go best)
      where
        go : (b : Option ℕ) → as_answer (least min (some (get_or cs (i - 1) 0)) b) ≡ lesser (get_or cs (i - 1) 0) (as_answer b)
        go missing = refl
        go (some r) = refl

    pub search-passes : p (get_or cs (i - 1) 0) (get_or ss (i - 1) 0) ≡ false → as_answer best ≡ least_fitting p (drop (i - 1) cs) (drop (i - 1) ss)
    search-passes f = rw (one, f)

-- ---- what the answer says
module _ (p : ℕ → ℕ → Bool) (c : ℕ) (cs : List ℕ) (s : ℕ) (ss : List ℕ) where
  first : p c s ≡ true → Unfit p cs ss → LeastFit p (c ∷ cs) (s ∷ ss) c
  first h u = record { at = 0; within = suc-le-suc zero-le; is = refl; passes = h; least = go }
    where
      go : (j : ℕ) → j < length (c ∷ cs) → p (get_or (c ∷ cs) j 0) (get_or (s ∷ ss) j 0) ≡ true → c ≤ get_or (c ∷ cs) j 0
      go zero l q = le_refl c
      go (suc j) l q = absurd (true≢false (sym q ∙ u j (le_of_suc-le-suc l)))

  lower : p c s ≡ true → (r : ℕ) → LeastFit p cs ss r → c ≤ r → LeastFit p (c ∷ cs) (s ∷ ss) c
  lower h r m o = record { at = 0; within = suc-le-suc zero-le; is = refl; passes = h; least = go }
    where
      go : (j : ℕ) → j < length (c ∷ cs) → p (get_or (c ∷ cs) j 0) (get_or (s ∷ ss) j 0) ≡ true → c ≤ get_or (c ∷ cs) j 0
      go zero l q = le_refl c
      go (suc j) l q = le_trans o (m.least j (le_of_suc-le-suc l) q)

  later : (r : ℕ) → LeastFit p cs ss r → (p c s ≡ true → r ≤ c) → LeastFit p (c ∷ cs) (s ∷ ss) r
  later r m o = record { at = suc m.at; within = suc-le-suc m.within; is = m.is; passes = m.passes; least = go }
    where
      go : (j : ℕ) → j < length (c ∷ cs) → p (get_or (c ∷ cs) j 0) (get_or (s ∷ ss) j 0) ≡ true → r ≤ get_or (c ∷ cs) j 0
      go zero l q = o q
      go (suc j) l q = m.least j (le_of_suc-le-suc l) q

  unfit : p c s ≡ false → Unfit p cs ss → Unfit p (c ∷ cs) (s ∷ ss)
  unfit h u zero l = h
  unfit h u (suc j) l = u j (le_of_suc-le-suc l)

  fit-step : p c s ≡ true → (a : Answer) → Meant p cs ss a → Meant p (c ∷ cs) (s ∷ ss) (lesser c a)
  fit-step h (refusal k) m = m
  fit-step h none m = first h m
  fit-step h (rate r) m = go (leb c r) refl
    where
      go : (b : Bool) → leb c r ≡ b → LeastFit p (c ∷ cs) (s ∷ ss) (min c r)
      go true e = let l = leb-true c r e in subst (λ (z : ℕ). LeastFit p (c ∷ cs) (s ∷ ss) z) (sym (min-eq_left l)) (lower h r m l)
      go false e =
          let l = leb-false c r e in
          let z : min c r ≡ r = omega arith in
          subst (λ (y : ℕ). LeastFit p (c ∷ cs) (s ∷ ss) y) (sym z) (later r m (λ q. omega arith))

  pass_step : p c s ≡ false → (a : Answer) → Meant p cs ss a → Meant p (c ∷ cs) (s ∷ ss) a
  pass_step h (refusal k) m = m
  pass_step h none m = unfit h m
  pass_step h (rate r) m = later r m (λ q. absurd (true≢false (sym q ∙ h)))

-- a rate exactly if some candidate fits, and then the least that does
pub search_meant : (p : ℕ → ℕ → Bool) (cs ss : List ℕ) → length cs ≡ length ss → Meant p cs ss (least_fitting p cs ss)
unfolding least_fitting
search_meant p [] ss e = λ j l. absurd (not-suc-le-zero l)
search_meant p (c ∷ cs) [] e = absurd (omega arith)
search_meant p (c ∷ cs) (s ∷ ss) e = go (p c s) refl (search_meant p cs ss (omega arith))
  where
    go : (b : Bool) → p c s ≡ b → Meant p cs ss (least_fitting p cs ss) → Meant p (c ∷ cs) (s ∷ ss) (cond b (lesser c (least_fitting p cs ss)) (least_fitting p cs ss))
    go true h m = fit-step p c cs s ss h (least_fitting p cs ss) m
    go false h m = pass_step p c cs s ss h (least_fitting p cs ss) m

-- refusal 1 exactly where the lists differ in length; else the least candidate that fits, or none where none fits
pub min-rate-says : (cs ss inflow : List ℕ) (n : ℕ) → length cs ≡ length ss → Meant (fits inflow n) cs ss (min_rate_for_capacity cs ss inflow n)
unfolding min_rate_for_capacity
min-rate-says cs ss inflow n e = rw (eq-eqb (length cs) (length ss) e) (search_meant (fits inflow n) cs ss e)

pub min-rate_refuses : (cs ss inflow : List ℕ) (n : ℕ) → (length cs ≡ length ss → ⊥) → min_rate_for_capacity cs ss inflow n ≡ refusal 1
unfolding min_rate_for_capacity
min-rate_refuses cs ss inflow n h = rw (ne_eqb (length cs) (length ss) h)
