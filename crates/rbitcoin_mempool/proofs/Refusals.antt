-- What a refusal of 0 tells of a state and of the memory lent to it. Assumes nothing.
use Rattle.std.proofs.Common.{◌≡◌, ℕ, zero, suc, ◌+◌, ◌-◌, ◌*◌, ◌<◌, ◌≤◌, Bool, true, false, cond, eqb, ltb, ◌⊎◌, List, sym, refl, ap, ◌∙◌, inl, inr, ⊎_elim, mul-le-mul, add-zero, arith, ltb-false, le-ltb, eq-eqb, ne_eqb}
use borrow.Author.Tests.{eqb-false}
use Rattle.rbitcoin_mempool.specs.declared.fee_analog.history.AnalogHistory.{AnalogHistory}
use Rattle.std.specs.Prelude.{Ok, Err}
use Rattle.std.specs.Result.{IsErrAnd}
use Rattle.std.specs.declared.result.Result.{Result}
use Rattle.std.proofs.lemmas.Bool.Decides.{nat_tests}
use Rattle.rbitcoin_mempool.specs.declared.answer.Refusal.{Refusal}
use Rattle.rbitcoin_mempool.specs.declared.answer.Refusal.TheVariants.{Unpaired, Descending, TooManyTargets, Full, Short, Empty, Confidence, Mark}
use Rattle.rbitcoin_mempool.specs.Refusal.{number}
use Rattle.rbitcoin_mempool.specs.Outcome.{done, refused, refusal_of, verdict, verdict_of}
use Rattle.rbitcoin_mempool.specs.Scan.{scan_refusal}
use Rattle.rbitcoin_mempool.specs.Windows.{Valid, at, fresh, lent_refusal, open_refusal, opened, or_else, pop_of, popped, push_refusal, rebuild_refusal, size_refusal, state_refusal}

pub zero_or_not : (n : ℕ) → (n ≡ 0) ⊎ (n ≡ 0 → ⊥)
zero_or_not zero = inl refl
zero_or_not (suc n) = inr (λ e. omega arith)

-- a choice that is 0 did not choose k
not_chosen : (b : Bool) (k x : ℕ) → 0 < k → cond b k x ≡ 0 → (b ≡ false) × (x ≡ 0)
not_chosen true k x p e = absurd (let f : ⊥ = omega arith in f)
not_chosen false k x p e = (refl, e)

pub or-else_second : (x y : ℕ) → x ≡ 0 → or_else x y ≡ y
or-else_second x y e = rw (eq-eqb x 0 e)

pub or-else-first : (x y : ℕ) → (x ≡ 0 → ⊥) → or_else x y ≡ x
or-else-first x y e = rw (ne_eqb x 0 e)

or-else-zero : (x y : ℕ) → or_else x y ≡ 0 → (x ≡ 0) × (y ≡ 0)
or-else-zero zero y e = (refl, e)
or-else-zero (suc x) y e = let f : suc x ≡ 0 = sym (or-else-first (suc x) y (λ q. omega arith)) ∙ e in (f, absurd (let g : ⊥ = omega arith in g))

pub refusing : (n : ℕ) → (n ≡ 0 → ⊥) → refused n ≡ verdict_of n
unfolding verdict_of
refusing zero e = absurd (e refl)
refusing (suc n) e = refl

-- a first answer and then a second: the first stands unless it is 0
pub first_stands : (x y r : ℕ) → r ≡ x → (r ≡ 0 → ⊥) → r ≡ or_else x y
first_stands x y r e n = e ∙ sym (or-else-first x y (λ q. n (e ∙ q)))

pub then_second : (x y r q : ℕ) → r ≡ x → r ≡ 0 → q ≡ y → q ≡ or_else x y
then_second x y r q e z p = p ∙ sym (or-else_second x y (sym e ∙ z))

pub record Sound (s : AnalogHistory) : Type 0 where
  pub few : s.tracked ≤ 16
  pub small : s.capacity ≤ 65536
  pub within : s.start + s.count ≤ s.capacity

pub sound : (s : AnalogHistory) → state_refusal s ≡ 0 → Sound s
unfolding state_refusal
sound s e =
    let a = not_chosen (ltb 16 s.tracked) 3 _ (omega arith) e in
    let b = not_chosen (ltb 65536 s.capacity) 5 _ (omega arith) a.1 in
    let c = not_chosen (ltb s.capacity (s.start + s.count)) 5 0 (omega arith) b.1 in
    record { few = ltb-false _ _ a.0; small = ltb-false _ _ b.0; within = ltb-false _ _ c.0 }

pub places-fit : (m n : ℕ) → m ≤ 16 → n ≤ 65536 → m * n ≤ 1048576
places-fit m n p q = mul-le-mul p q

pub sound_places : (s : AnalogHistory) → state_refusal s ≡ 0 → s.tracked * s.capacity ≤ 1048576
sound_places s e = let v = sound s e in places-fit s.tracked s.capacity v.few v.small

pub ruleset size_tests = (nat_tests, sound_places)

numbered : (k : Refusal) → 0 < number k
numbered Unpaired = omega arith
numbered Descending = omega arith
numbered TooManyTargets = omega arith
numbered Full = omega arith
numbered Short = omega arith
numbered Empty = omega arith
numbered Confidence = omega arith
numbered Mark = omega arith

pub some_number : (k : Refusal) (x : ℕ) → number k ≡ x → x ≡ 0 → ⊥
some_number k x e z = let p : 0 < number k = numbered k in omega arith

-- a refusal passed on by `?`
pub verdict_passed : {A : Type 0} (q : Result A Refusal) (k : Refusal) (x : ℕ) → IsErrAnd q (λ e. e ≡ k) → number k ≡ x → verdict q ≡ verdict_of x
verdict_passed (Ok a) k x h e = absurd h
verdict_passed (Err j) k x h e = rw (h, ← e) (refusing (number k) (some_number k _ refl))

pub verdict_done : (x : ℕ) → 0 ≡ x → done ≡ verdict_of x
unfolding verdict_of
verdict_done x e = rw (← e)

pub not_refused : (k x : ℕ) → refused k ≡ verdict_of x → x ≡ 0 → ⊥
unfolding verdict_of
not_refused k x e z = let f : refused k ≡ done = rw z at e in absurd (cc)

-- a first question refused, and passed on by `?`
pub passed_on : {A : Type 0} (q : Result A Refusal) (k : Refusal) (x y : ℕ) → IsErrAnd q (λ e. e ≡ k) → number k ≡ x → refusal_of q ≡ or_else x y
passed_on (Ok a) k x y h e = absurd h
passed_on (Err j) k x y h e = rw h (e ∙ sym (or-else-first x y (some_number k x e)))

pub ruleset refusal_steps = (nat_tests, passed_on)

pub lent : (s : AnalogHistory) (h b a : ℕ) → lent_refusal s h b a ≡ 0 → Valid s h b a
unfolding lent_refusal size_refusal
lent s h b a e =
    let q = or-else-zero (state_refusal s) (size_refusal s h b a) e in
    let v = sound s q.0 in
    let h1 = not_chosen (ltb h s.capacity) 5 _ (omega arith) q.1 in
    let h2 = not_chosen (ltb b (s.tracked * s.capacity)) 5 _ (omega arith) h1.1 in
    let h3 = not_chosen (ltb a (s.tracked * s.capacity)) 5 0 (omega arith) h2.1 in
    record {
      few = v.few;
      small = v.small;
      within = v.within;
      hurdles_fit = ltb-false _ _ h1.0;
      befores_fit = ltb-false _ _ h2.0;
      aheads_fit = ltb-false _ _ h3.0;
    }

pub record Open (s : AnalogHistory) (h b a : ℕ) : Type 0 where
  pub valid : Valid s h b a
  pub room : s.count < s.capacity

pub accepted : (s : AnalogHistory) (h b a : ℕ) → push_refusal s h b a ≡ 0 → Open s h b a
unfolding push_refusal
accepted s h b a e =
    let p = or-else-zero (lent_refusal s h b a) _ e in
    let v = lent s h b a p.0 in
    let n : s.count ≡ s.capacity → ⊥ = eqb-false _ _ (not_chosen (eqb s.count s.capacity) 4 0 (omega arith) p.1).0 in
    record { valid = v; room = omega arith }

pub rebuild-accepted : (n : ℕ) (s : AnalogHistory) (h b a : ℕ) → rebuild_refusal n s h b a ≡ 0 → (Valid s h b a) × (n ≤ s.capacity)
unfolding rebuild_refusal
rebuild-accepted n s h b a e =
    let p = or-else-zero (lent_refusal s h b a) _ e in
    (lent s h b a p.0, ltb-false _ _ (not_chosen (ltb s.capacity n) 4 0 (omega arith) p.1).0)

module _ (s : AnalogHistory) (to : ℕ) where
  pub popped-refused : (state_refusal s ≡ 0 → ⊥) → s ≡ popped to s
  unfolding popped
  popped-refused e = sym (rw (ne_eqb (state_refusal s) 0 e))

  pub popped-none : state_refusal s ≡ 0 → s.count ≡ 0 → s ≡ popped to s
  unfolding popped
  popped-none e n = sym (rw (eq-eqb (state_refusal s) 0 e, eq-eqb s.count 0 n))

  pub popped-some : state_refusal s ≡ 0 → (s.count ≡ 0 → ⊥) → at s to (s.count - 1) ≡ popped to s
  unfolding popped
  popped-some e n = sym (rw (eq-eqb (state_refusal s) 0 e, ne_eqb s.count 0 n))

pub popped_back : (s : AnalogHistory) → state_refusal s ≡ 0 → at s s.start (s.count - 1) ≡ popped s.start s
popped_back s e =
    ⊎_elim
    (λ n. ap (at s s.start) (let z : s.count - 1 ≡ s.count = omega arith in z) ∙ popped-none s s.start e n)
    (λ n. popped-some s s.start e n)
    (zero_or_not s.count)

-- valid windows are accepted: with room by a push and by a rebuild, with scratch of the capacity by a scan
module _ (s : AnalogHistory) (h b a : ℕ) (v : Valid s h b a) where
  pub valid-state : state_refusal s ≡ 0
  unfolding state_refusal
  valid-state = rw (le-ltb _ _ v.few, le-ltb _ _ v.small, le-ltb _ _ v.within)

  valid-size : size_refusal s h b a ≡ 0
  unfolding size_refusal
  valid-size = rw (le-ltb _ _ v.hurdles_fit, le-ltb _ _ v.befores_fit, le-ltb _ _ v.aheads_fit)

  valid-lent : lent_refusal s h b a ≡ 0
  unfolding lent_refusal
  valid-lent = or-else_second (state_refusal s) (size_refusal s h b a) valid-state ∙ valid-size

  pub accepts : s.count < s.capacity → push_refusal s h b a ≡ 0
  unfolding push_refusal
  accepts r = or-else_second (lent_refusal s h b a) _ valid-lent ∙ rw (ne_eqb s.count s.capacity (λ e. omega arith))

  pub rebuilds : (n : ℕ) → n ≤ s.capacity → rebuild_refusal n s h b a ≡ 0
  unfolding rebuild_refusal
  rebuilds n l = or-else_second (lent_refusal s h b a) _ valid-lent ∙ rw (le-ltb _ _ l)

  pub scans : (z : ℕ) → s.capacity ≤ z → scan_refusal s h b a z ≡ 0
  unfolding scan_refusal
  scans z y = or-else_second (lent_refusal s h b a) _ valid-lent ∙ rw (le-ltb _ _ y)

pub scan-accepted : (s : AnalogHistory) (h b a z : ℕ) → scan_refusal s h b a z ≡ 0 → (Valid s h b a) × (s.capacity ≤ z)
unfolding scan_refusal
scan-accepted s h b a z e =
    let p = or-else-zero (lent_refusal s h b a) _ e in
    (lent s h b a p.0, ltb-false _ _ (not_chosen (ltb z s.capacity) 5 0 (omega arith) p.1).0)

-- an opening, by the state s that it would return
module _ (targets : List ℕ) (capacity h b a : ℕ) (s : AnalogHistory) (e : s ≡ fresh targets capacity) where
  pub open_by : lent_refusal s h b a ≡ open_refusal targets capacity h b a
  unfolding open_refusal
  open_by = ap (λ (t : AnalogHistory). lent_refusal t h b a) e

  pub open_done : lent_refusal s h b a ≡ 0 → s ≡ opened targets capacity h b a
  unfolding opened
  open_done z = e ∙ sym (rw (eq-eqb (open_refusal targets capacity h b a) 0 (sym open_by ∙ z)))

-- the hurdle at an end goes: the start moves by one where it is the oldest
pub pop-moves : (b : Bool) (s : AnalogHistory) → popped (s.start + cond b 0 1) s ≡ pop_of b s
pop-moves true s = ap (λ n. popped n s) (add-zero s.start)
pop-moves false s = refl
