-- What each operation does to the held hurdles: a push adds one at its end, and a pop takes one; and that it changes neither targets nor capacity. Assumes nothing.
use Rattle.std.proofs.Common.{◌≡◌, ℕ, ◌+◌, ◌-◌, ◌/◌, ◌<◌, ◌≤◌, Bool, true, false, cond, eqb, List, [], ◌∷◌, ◌++◌, length, take, sym, refl, ap, ◌∙◌, subst, ⊎_elim, eq-or-lt_of_le, arith, length-append, take_at}
use Rattle.rbitcoin_mempool.specs.Pairs.{pop_back, pop_front, push_back, push_front}
use Rattle.rbitcoin_mempool.specs.declared.fee_analog.history.AnalogHistory.{AnalogHistory}
use Rattle.rbitcoin_mempool.specs.Reached.{SetUpAs, pop_back_in, pop_front_in}
use Rattle.rbitcoin_mempool.specs.Windows.{Windows, at, free_of, held, held_in, moved_to, pop_back_of, pop_front_of, popped, push_back_of, push_front_of, push_refusal_of, room_back, room_front, state_refusal, store_back, store_front, with_pairs}
use Rattle.rbitcoin_mempool.proofs.Parts.{held_all-back, held_all_front, held_back, held_front, held_moved}
use Rattle.rbitcoin_mempool.proofs.Pushes.{OpenAt, ValidIn, push-done, room_open}
use Rattle.rbitcoin_mempool.proofs.Refusals.{accepted, popped-none, popped-some, valid-state, zero_or_not}
use Rattle.rbitcoin_mempool.proofs.Values.{back-kept, back-moved, front_kept, front-moved}

module _ (w : Windows) (v : ValidIn w) where
  move-held : (to : ℕ) → to + w.state.count ≤ w.state.capacity → held_in (moved_to to w) ≡ held_in w
  unfolding moved_to
  move-held to p = let i = v.within in let j = v.hurdles_fit in held_moved w.state w.hurdles to (omega arith) (omega arith)

  back-room-held : w.state.count < w.state.capacity → held_in (room_back w) ≡ held_in w
  back-room-held r =
      ⊎_elim
      (λ e. subst (λ (u : Windows). held_in u ≡ held_in w) (back-moved w e) (move-held (free_of w.state / 4) (omega arith)))
      (λ l. subst (λ (u : Windows). held_in u ≡ held_in w) (back-kept w (λ e. omega arith)) refl)
      (eq-or-lt_of_le v.within)

  front-room-held : w.state.count < w.state.capacity → held_in (room_front w) ≡ held_in w
  front-room-held r =
      ⊎_elim
      (λ e. subst (λ (u : Windows). held_in u ≡ held_in w) (front-moved w (sym e)) (move-held (free_of w.state - free_of w.state / 4) (omega arith)))
      (λ l. subst (λ (u : Windows). held_in u ≡ held_in w) (front_kept w (λ e. omega arith)) refl)
      (eq-or-lt_of_le (let z : 0 ≤ w.state.start = omega arith in z))

store-back-held : (w : Windows) (x : ℕ) → OpenAt true w → held_in (with_pairs true (store_back x w)) ≡ held_in w ++ (x ∷ [])
unfolding with_pairs store_back
store-back-held w x o = let i = o.room in let j = o.valid.hurdles_fit in held_back w.state w.hurdles x (omega arith)

store_front-held : (w : Windows) (x : ℕ) → OpenAt false w → held_in (with_pairs false (store_front x w)) ≡ x ∷ held_in w
unfolding with_pairs store_front
store_front-held w x o = let i = o.room in let k = o.valid.within in let j = o.valid.hurdles_fit in held_front w.state w.hurdles x i (omega arith)

module _ (w : Windows) (x : ℕ) (z : push_refusal_of w ≡ 0) where
  pub push-back-held : held_in (push_back_of x w) ≡ push_back x (held_in w)
  push-back-held =
      let o = accepted w.state _ _ _ z in
      subst (λ (u : Windows). held_in u ≡ held_in w ++ (x ∷ [])) (push-done w x true z)
      (store-back-held (room_back w) x (room_open w o.valid o.room true) ∙ ap (λ (l : List ℕ). l ++ (x ∷ [])) (back-room-held w o.valid o.room))

  pub push_front-held : held_in (push_front_of x w) ≡ push_front x (held_in w)
  push_front-held =
      let o = accepted w.state _ _ _ z in
      subst (λ (u : Windows). held_in u ≡ x ∷ held_in w) (push-done w x false z)
      (store_front-held (room_front w) x (room_open w o.valid o.room false) ∙ ap (λ (l : List ℕ). x ∷ l) (front-room-held w o.valid o.room))

-- the last of a list dropped
drop-last : (hs gs : List ℕ) (x : ℕ) → hs ≡ gs ++ (x ∷ []) → gs ≡ pop_back hs
drop-last hs gs x e =
    let n : length hs - 1 ≡ length gs = omega (arith, ap length e ∙ length-append gs (x ∷ [])) in
    sym (ap (λ l. take (length hs - 1) l) e ∙ take_at gs (x ∷ []) (length hs - 1) (sym n))

module _ (w : Windows) (v : ValidIn w) where
  state_taken : state_refusal w.state ≡ 0
  state_taken = valid-state w.state _ _ _ v

  none-held : w.state.count ≡ 0 → held_in w ≡ []
  unfolding held
  none-held e = rw e

  pub pop-back-held : held_in (pop_back_in w) ≡ pop_back (held_in w)
  pop-back-held =
      ⊎_elim
      (λ n. ap (λ (s : _). held s w.hurdles) (sym (popped-none w.state w.state.start state_taken n)) ∙ none-held n ∙ sym (ap pop_back (none-held n)))
      (λ p. let i = v.within in
      let j = v.hurdles_fit in
      ap (λ (s : _). held s w.hurdles) (sym (popped-some w.state w.state.start state_taken p))
      ∙ drop-last (held_in w) _ _ (held_all-back w.state w.hurdles (omega arith) (omega arith)))
      (zero_or_not w.state.count)

  pub pop_front-held : held_in (pop_front_in w) ≡ pop_front (held_in w)
  pop_front-held =
      ⊎_elim
      (λ n. ap (λ (s : _). held s w.hurdles) (sym (popped-none w.state (w.state.start + 1) state_taken n)) ∙ none-held n ∙ sym (ap pop_front (none-held n)))
      (λ p. let i = v.within in
      let j = v.hurdles_fit in
      ap (λ (s : _). held s w.hurdles) (sym (popped-some w.state (w.state.start + 1) state_taken p))
      ∙ sym (ap pop_front (held_all_front w.state w.hurdles (omega arith) (omega arith))))
      (zero_or_not w.state.count)

-- ---- no call changes the targets or the capacity
pub set-up : (s : AnalogHistory) (start count : ℕ) → SetUpAs s (at s start count)
set-up s start count = record { same_targets = refl; same_tracked = refl; same_capacity = refl }

pub same-set-up : (s : AnalogHistory) → SetUpAs s s
same-set-up s = record { same_targets = refl; same_tracked = refl; same_capacity = refl }

pub set-up_then : {s t u : AnalogHistory} → SetUpAs s t → SetUpAs t u → SetUpAs s u
set-up_then h k = record { same_targets = k.same_targets ∙ h.same_targets; same_tracked = k.same_tracked ∙ h.same_tracked; same_capacity = k.same_capacity ∙ h.same_capacity }

pub push-back-set-up : (w : Windows) (x : ℕ) → SetUpAs w.state (push_back_of x w).state
unfolding push_back_of with_pairs store_back room_back moved_to
push-back-set-up w x = by (eqb (push_refusal_of w) 0) (eqb (w.state.start + w.state.count) w.state.capacity)
  where
    by : (a b : Bool) → SetUpAs w.state (cond a (with_pairs true (store_back x (cond b (moved_to (free_of w.state / 4) w) w))) w).state
    by true true = set-up w.state _ _
    by true false = set-up w.state _ _
    by false b = same-set-up w.state

pub push_front-set-up : (w : Windows) (x : ℕ) → SetUpAs w.state (push_front_of x w).state
unfolding push_front_of with_pairs store_front room_front moved_to
push_front-set-up w x = by (eqb (push_refusal_of w) 0) (eqb w.state.start 0)
  where
    by : (a b : Bool) → SetUpAs w.state (cond a (with_pairs false (store_front x (cond b (moved_to (free_of w.state - free_of w.state / 4) w) w))) w).state
    by true true = set-up w.state _ _
    by true false = set-up w.state _ _
    by false b = same-set-up w.state

popped-set-up : (start : ℕ) (s : AnalogHistory) → SetUpAs s (popped start s)
unfolding popped
popped-set-up start s = by (eqb (state_refusal s) 0) (eqb s.count 0)
  where
    by : (a b : Bool) → SetUpAs s (cond a (cond b s (at s start (s.count - 1))) s)
    by true true = same-set-up s
    by true false = set-up s _ _
    by false b = same-set-up s

pub pop-back-set-up : (s : AnalogHistory) → SetUpAs s (pop_back_of s)
pop-back-set-up s = popped-set-up s.start s

pub pop_front-set-up : (s : AnalogHistory) → SetUpAs s (pop_front_of s)
pop_front-set-up s = popped-set-up (s.start + 1) s
