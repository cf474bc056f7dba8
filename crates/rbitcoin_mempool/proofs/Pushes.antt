-- Each step of a push leaves valid windows, and the steps make the push. Assumes nothing.
use Rattle.std.proofs.Common.{◌≡◌, ℕ, zero, suc, ◌+◌, ◌-◌, ◌*◌, ◌/◌, ◌<◌, ◌≤◌, Bool, true, false, cond, List, length, set, sym, refl, ◌∙◌, subst, ⊎_elim, zero-le, eq-or-lt_of_le, arith, length-set, eq-eqb, ne_eqb}
use lib.Ieee.{Float}
use Rattle.slices.proofs.Runs.{length_moved}
use Rattle.rbitcoin_mempool.specs.Pairs.{ahead_at, before_at}
use Rattle.rbitcoin_mempool.specs.Windows.{Room, Valid, Windows, at, each_target, free_of, held, move_region, moved_to, push_back_of, push_front_of, push_of, push_refusal, push_refusal_of, put, rebuild_refusal, rebuild_refusal_of, room_of, store_back, store_front, store_of, windows, with_pairs}
use Rattle.rbitcoin_mempool.specs.declared.fee_analog.history.AnalogHistory.{AnalogHistory}
use Rattle.rbitcoin_mempool.specs.Memory.{windows_of}
use Rattle.rbitcoin_mempool.specs.declared.fee_analog.memory.WindowMemory.{WindowMemory}
use Rattle.rbitcoin_mempool.specs.declared.fee_analog.memory.WindowLists.{WindowLists}
use Rattle.rbitcoin_mempool.proofs.Refusals.{accepted}
use Rattle.rbitcoin_mempool.proofs.Regions.{region}
use Rattle.rbitcoin_mempool.proofs.Values.{back-kept, back-moved, front_kept, front-moved, valid_same, windows-eq}

abbrev pub ValidIn : Windows → Type 0
ValidIn w = Valid w.state (length w.hurdles) (length w.befores) (length w.aheads)

pub each-length : {A : Type 0} (f : ℕ → List A → List A) (n : ℕ) (xs : List A) → ((d : ℕ) → d < n → (ys : List A) → length ys ≡ length xs → length (f d ys) ≡ length xs) → length (each_target f n xs) ≡ length xs
unfolding each_target
each-length f zero xs h = refl
each-length f (suc n) xs h = h n (omega arith) (each_target f n xs) (each-length f n xs (λ d p. h d (omega arith)))

pub length_regions : {A : Type 0} (c to from n t : ℕ) (xs : List A) → to + n ≤ c → from + n ≤ c → t * c ≤ length xs → length (each_target (move_region c to from n) t xs) ≡ length xs
length_regions c to from n t xs p q r =
    each-length (move_region c to from n) t xs
    (λ d k ys e. let l : d * c + c ≤ t * c = region d t c k in length_moved ys (d * c + to) (d * c + from) n (omega arith) (omega arith) ∙ e)

module _ (w : Windows) (v : ValidIn w) where
  pub moved_valid : (to : ℕ) → to + w.state.count ≤ w.state.capacity → ValidIn (moved_to to w)
  unfolding moved_to
  moved_valid to p =
      let s = w.state in
      let i = v.within in
      let j = v.hurdles_fit in
      let u : Valid (at s to s.count) (length w.hurdles) (length w.befores) (length w.aheads)
      = record { few = v.few; small = v.small; within = p; hurdles_fit = j; befores_fit = v.befores_fit; aheads_fit = v.aheads_fit } in
      valid_same _ u
      (length_moved w.hurdles to s.start s.count (omega arith) (omega arith))
      (length_regions s.capacity to s.start s.count s.tracked w.befores p i v.befores_fit)
      (length_regions s.capacity to s.start s.count s.tracked w.aheads p i v.aheads_fit)

-- windows with room for one more after the newest, or before the oldest
pub record OpenAt (newest : Bool) (w : Windows) : Type 0 where
  pub valid : ValidIn w
  pub room : Room newest w.state

module _ (w : Windows) (v : ValidIn w) (r : w.state.count < w.state.capacity) where
  pub room_open : (newest : Bool) → OpenAt newest (room_of newest w)
  unfolding moved_to
  room_open true =
      ⊎_elim
      (λ e. subst (OpenAt true) (back-moved w e) (record { valid = moved_valid w v (free_of w.state / 4) (omega arith); room = omega arith }))
      (λ l. subst (OpenAt true) (back-kept w (λ e. omega arith)) (record { valid = v; room = l }))
      (eq-or-lt_of_le v.within)
  room_open false =
      ⊎_elim
      (λ e. subst (OpenAt false) (front-moved w (sym e)) (record { valid = moved_valid w v (free_of w.state - free_of w.state / 4) (omega arith); room = omega arith }))
      (λ l. subst (OpenAt false) (front_kept w (λ e. omega arith)) (record { valid = v; room = l }))
      (eq-or-lt_of_le (let z : 0 ≤ w.state.start = zero-le in z))

-- the windows u once there is room, where w accepts a push
pub opened-at : (w u : Windows) (newest : Bool) → push_refusal_of w ≡ 0 → u ≡ room_of newest w → OpenAt newest u
opened-at w u newest z r =
    let o = accepted _ _ _ _ z in
    subst (OpenAt newest) (sym r) (room_open w o.valid o.room newest)

-- where what is held starts with one more, and the place of that one
abbrev pub first_of : Bool → AnalogHistory → ℕ
first_of newest s = cond newest s.start (s.start - 1)

abbrev pub place_of : Bool → AnalogHistory → ℕ
place_of newest s = cond newest (s.start + s.count) (s.start - 1)

module _ (w : Windows) (h : ℕ) where
  pub stored_at : (newest : Bool) (t : AnalogHistory) (first place : ℕ) → t ≡ at w.state first (w.state.count + 1) → first ≡ first_of newest w.state → place ≡ place_of newest w.state
      → windows t (set w.hurdles place h) w.befores w.aheads ≡ store_of newest h w
  unfolding store_back store_front
  stored_at true t first place a b c = cc
  stored_at false t first place a b c = cc

  pub store_valid : (newest : Bool) → OpenAt newest w → ValidIn (store_of newest h w)
  store_valid newest o =
      let v = o.valid in
      let u : Valid (at w.state (first_of newest w.state) (w.state.count + 1)) (length w.hurdles) (length w.befores) (length w.aheads)
      = record { few = v.few; small = v.small; within = first-within newest o.room v.within; hurdles_fit = v.hurdles_fit; befores_fit = v.befores_fit; aheads_fit = v.aheads_fit } in
      subst ValidIn (stored_at newest _ _ _ refl refl refl) (valid_same _ u (length-set w.hurdles (place_of newest w.state) h) refl refl)
    where
      first-within : (b : Bool) → Room b w.state → w.state.start + w.state.count ≤ w.state.capacity → first_of b w.state + (w.state.count + 1) ≤ w.state.capacity
      first-within true i j = omega arith
      first-within false i j = omega arith

  pub push-done : (newest : Bool) → push_refusal_of w ≡ 0 → with_pairs newest (store_of newest h (room_of newest w)) ≡ push_of newest h w
  unfolding push_back_of push_front_of
  push-done true e = sym (rw (eq-eqb (push_refusal_of w) 0 e))
  push-done false e = sym (rw (eq-eqb (push_refusal_of w) 0 e))

  pub push-refused : (newest : Bool) → (push_refusal_of w ≡ 0 → ⊥) → w ≡ push_of newest h w
  unfolding push_back_of push_front_of
  push-refused true e = sym (rw (ne_eqb (push_refusal_of w) 0 e))
  push-refused false e = sym (rw (ne_eqb (push_refusal_of w) 0 e))

pub pairs-put : (newest : Bool) (t : AnalogHistory) (hs gs : List ℕ) (bs cs : List Float) (ds es : List ℕ)
    → gs ≡ hs
    → cs ≡ each_target (put before_at newest t (held t hs)) t.tracked bs
    → es ≡ each_target (put ahead_at newest t (held t hs)) t.tracked ds
    → windows t gs cs es ≡ with_pairs newest (windows t hs bs ds)
unfolding with_pairs
pairs-put newest t hs gs bs cs ds es p q r = windows-eq refl p q r

-- the lists of lent memory, as they were asked for
module _ (s : AnalogHistory) (m : WindowMemory) (l : WindowLists) (h : l.hurdles.now ≡ m.hurdles.now) (b : l.befores.now ≡ m.befores.now) (a : l.aheads.now ≡ m.aheads.now) where
  pub push-sized : push_refusal s (length l.hurdles.now) (length l.befores.now) (length l.aheads.now) ≡ push_refusal_of (windows_of s m)
  push-sized = rw (h, b, a) refl

  pub rebuild-sized : (xs : List ℕ) → rebuild_refusal (length xs) s (length l.hurdles.now) (length l.befores.now) (length l.aheads.now) ≡ rebuild_refusal_of xs (windows_of s m)
  rebuild-sized xs = rw (h, b, a) refl
