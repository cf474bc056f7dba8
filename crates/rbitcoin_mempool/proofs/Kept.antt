-- The stored pairs of each target are the pairs of the held hurdles: of an empty state, and after each push and pop. Assumes nothing.
use Rattle.std.proofs.Common.{◌≡◌, ℕ, ◌+◌, ◌-◌, ◌/◌, ◌<◌, ◌≤◌, Bool, true, false, [], ◌∷◌, ◌++◌, length, get_or, drop, set, sym, refl, ap, ◌∙◌, subst, ⊎_elim, eq-or-lt_of_le, arith}
use lib.Ieee.{Float, nan}
use Rattle.rbitcoin_mempool.specs.declared.fee_analog.history.AnalogHistory.{AnalogHistory}
use Rattle.slices.specs.Lists.{tabulate}
use Rattle.slices.proofs.Lists.{same_at, tabulate-same}
use Rattle.rbitcoin_mempool.specs.Median.{analog_lookback}
use Rattle.rbitcoin_mempool.specs.Pairs.{Pair, ahead_at, ahead_of, before_at, pair_at, pairs_of, windows_in}
use Rattle.rbitcoin_mempool.specs.Reached.{pop_back_in, pop_front_in}
use Rattle.rbitcoin_mempool.specs.Windows.{WellStored, Windows, at, free_of, held, held_in, moved_to, popped, push_back_of, push_front_of, push_refusal_of, room_back, room_front, state_refusal, store_back, store_front, stored_at, stored_pairs, target_at, windows, with_pairs}
use Rattle.rbitcoin_mempool.proofs.Parts.{ahead_windowed, before_windowed, held_all-back, held_all_front, held_back, held_front, held_moved, length-held}
use Rattle.rbitcoin_mempool.proofs.Pushes.{OpenAt, ValidIn, each-length, moved_valid, push-done, push-refused, room_open, store_valid}
use Rattle.rbitcoin_mempool.proofs.Puts.{ahead-least}
use Rattle.rbitcoin_mempool.proofs.Refusals.{accepted, popped-none, popped-refused, popped-some, zero_or_not}
use Rattle.rbitcoin_mempool.proofs.Stored.{Holds, back_holds, front_holds, move_holds, pop-back_holds, pop_front_holds, put-long}
use Rattle.rbitcoin_mempool.proofs.Values.{back-kept, back-moved, front_kept, front-moved, valid_same}

-- both halves of the pairs are at their places
pub record HoldsBoth (w : Windows) : Type 0 where
  pub befores-hold : Holds before_at nan w.state (held w.state w.hurdles) w.befores
  pub aheads-hold : Holds ahead_at 0 w.state (held w.state w.hurdles) w.aheads

-- where the windows start
window-start : (c target t : ℕ) → analog_lookback target ≤ t → t < analog_lookback target + windows_in c target → t + ahead_of target ≤ c
unfolding windows_in
window-start c target t p h = omega arith

start-within : (c target t : ℕ) → analog_lookback target ≤ t → t + ahead_of target ≤ c → t < analog_lookback target + windows_in c target
unfolding windows_in
start-within c target t h g = omega arith

pair_same : {a b : Float} {m n : ℕ} → a ≡ b → m ≡ n → ◌≡◌ {A = Pair} (record { before = a; ahead = m }) (record { before = b; ahead = n })
pair_same p q = cc

-- the pairs as lists, and place by place
module _ (w : Windows) (v : w.state.start + w.state.count ≤ length w.hurdles) where
  as_long : (d : ℕ) → pairs_of (held_in w) (target_at w.state d)
      ≡ tabulate (pair_at (held_in w) (target_at w.state d)) (analog_lookback (target_at w.state d)) (windows_in w.state.count (target_at w.state d))
  unfolding pairs_of
  as_long d =
      let target = target_at w.state d in
      ap (λ c. tabulate (pair_at (held_in w) target) (analog_lookback target) (windows_in c target)) (length-held w.state w.hurdles v)

  pair-stored : WellStored w → (d : ℕ) → d < w.state.tracked → (t : ℕ) → analog_lookback (target_at w.state d) ≤ t → t + ahead_of (target_at w.state d) ≤ w.state.count
      → stored_at w d t ≡ pair_at (held_in w) (target_at w.state d) t
  unfolding WellStored stored_pairs
  pair-stored h d k t a b =
      let target = target_at w.state d in
      same_at (stored_at w d) (pair_at (held_in w) target) (analog_lookback target) (windows_in w.state.count target) t
      (h d k ∙ as_long d) a (start-within w.state.count target t a b)

  stored_holds : WellStored w → HoldsBoth w
  unfolding Holds
  stored_holds h =
      record {
        befores-hold = λ d k t a b. ap (λ (p : Pair). p.before) (pair-stored h d k t a b);
        aheads-hold = λ d k t a b. ap (λ (p : Pair). p.ahead) (pair-stored h d k t a b);
      }

  holds-stored : HoldsBoth w → WellStored w
  unfolding Holds WellStored stored_pairs
  holds-stored h d k =
      let target = target_at w.state d in
      tabulate-same (stored_at w d) (pair_at (held_in w) target) (analog_lookback target) (windows_in w.state.count target)
      (λ t p q. let g = window-start w.state.count target t p q in pair_same (h.befores-hold d k t p g) (h.aheads-hold d k t p g))
      ∙ sym (as_long d)

-- valid windows whose pairs are at their places
pub record Good (w : Windows) : Type 0 where
  pub valid : ValidIn w
  pub holds : HoldsBoth w

module _ (w : Windows) (g : Good w) where
  move-keeps : (to : ℕ) → to + w.state.count ≤ w.state.capacity → Good (moved_to to w)
  unfolding moved_to
  move-keeps to p =
      let s = w.state in
      let v = g.valid in
      let i = v.within in
      let j = v.hurdles_fit in
      let e : held (at s to s.count) (moved_to to w).hurdles ≡ held s w.hurdles = held_moved s w.hurdles to (omega arith) (omega arith) in
      record {
        valid = moved_valid w v to p;
        holds =
            record {
              befores-hold = rw e (move_holds before_at nan s (held s w.hurdles) w.befores to p i v.befores_fit g.holds.befores-hold);
              aheads-hold = rw e (move_holds ahead_at 0 s (held s w.hurdles) w.aheads to p i v.aheads_fit g.holds.aheads-hold);
            };
      }

  back-room-keeps : w.state.count < w.state.capacity → Good (room_back w)
  back-room-keeps r =
      ⊎_elim
      (λ e. subst Good (back-moved w e) (move-keeps (free_of w.state / 4) (omega arith)))
      (λ l. subst Good (back-kept w (λ e. omega arith)) g)
      (eq-or-lt_of_le g.valid.within)

  front-room-keeps : w.state.count < w.state.capacity → Good (room_front w)
  front-room-keeps r =
      ⊎_elim
      (λ e. subst Good (front-moved w e) (move-keeps (free_of w.state - free_of w.state / 4) (omega arith)))
      (λ n. subst Good (front_kept w n) g)
      (zero_or_not w.state.start)

pairs_valid : (newest : Bool) (w : Windows) → ValidIn w → ValidIn (with_pairs newest w)
unfolding with_pairs
pairs_valid newest w v =
    valid_same _ v refl
    (each-length _ w.state.tracked w.befores (λ d k ys e. put-long before_at nan newest w.state (held w.state w.hurdles) d ys ∙ e))
    (each-length _ w.state.tracked w.aheads (λ d k ys e. put-long ahead_at 0 newest w.state (held w.state w.hurdles) d ys ∙ e))

module _ (w : Windows) (x : ℕ) (h : HoldsBoth w) where
  store-back-keeps : OpenAt true w → Good (with_pairs true (store_back x w))
  unfolding with_pairs store_back
  store-back-keeps o =
      let s = w.state in
      let v = o.valid in
      let i = o.room in
      let j = v.hurdles_fit in
      let n : length (held s w.hurdles) ≡ s.count = length-held s w.hurdles (omega arith) in
      let e : held (at s s.start (s.count + 1)) (set w.hurdles (s.start + s.count) x) ≡ held s w.hurdles ++ (x ∷ []) = held_back s w.hurdles x (omega arith) in
      record {
        valid = pairs_valid true (store_back x w) (store_valid w x true o);
        holds =
            record {
              befores-hold = rw e (back_holds before_at nan s (held s w.hurdles) w.befores before_windowed x i v.befores_fit n h.befores-hold);
              aheads-hold = rw e (back_holds ahead_at 0 s (held s w.hurdles) w.aheads ahead_windowed x i v.aheads_fit n h.aheads-hold);
            };
      }

  store_front-keeps : OpenAt false w → Good (with_pairs false (store_front x w))
  unfolding with_pairs store_front
  store_front-keeps o =
      let s = w.state in
      let v = o.valid in
      let i = o.room in
      let q = v.within in
      let j = v.hurdles_fit in
      let n : length (held s w.hurdles) ≡ s.count = length-held s w.hurdles (omega arith) in
      let e : held (at s (s.start - 1) (s.count + 1)) (set w.hurdles (s.start - 1) x) ≡ x ∷ held s w.hurdles = held_front s w.hurdles x i (omega arith) in
      record {
        valid = pairs_valid false (store_front x w) (store_valid w x false o);
        holds =
            record {
              befores-hold = rw e (front_holds before_at nan s (held s w.hurdles) w.befores before_windowed x i q v.befores_fit n h.befores-hold);
              aheads-hold = rw e (front_holds ahead_at 0 s (held s w.hurdles) w.aheads ahead_windowed x i q v.aheads_fit n h.aheads-hold);
            };
      }

-- a push keeps good windows good, refused or not
module _ (w : Windows) (x : ℕ) (g : Good w) where
  pub push-back_good : Good (push_back_of x w)
  push-back_good =
      ⊎_elim
      (λ z. let o = accepted w.state _ _ _ z in
      subst Good (push-done w x true z) (store-back-keeps (room_back w) x (back-room-keeps w g o.room).holds (room_open w o.valid o.room true)))
      (λ n. subst Good (push-refused w x true n) g)
      (zero_or_not (push_refusal_of w))

  pub push_front_good : Good (push_front_of x w)
  push_front_good =
      ⊎_elim
      (λ z. let o = accepted w.state _ _ _ z in
      subst Good (push-done w x false z) (store_front-keeps (room_front w) x (front-room-keeps w g o.room).holds (room_open w o.valid o.room false)))
      (λ n. subst Good (push-refused w x false n) g)
      (zero_or_not (push_refusal_of w))

-- one hurdle fewer
module _ (w : Windows) (g : Good w) (p : 0 < w.state.count) where
  back_gone : Good (windows (at w.state w.state.start (w.state.count - 1)) w.hurdles w.befores w.aheads)
  back_gone =
      let s = w.state in
      let v = g.valid in
      let i = v.within in
      let j = v.hurdles_fit in
      let gs = held (at s s.start (s.count - 1)) w.hurdles in
      let x = get_or (drop s.start w.hurdles) (s.count - 1) 0 in
      let e : held s w.hurdles ≡ gs ++ (x ∷ []) = held_all-back s w.hurdles p (omega arith) in
      let n : length gs ≡ s.count - 1 = length-held (at s s.start (s.count - 1)) w.hurdles (omega arith) in
      record {
        valid = record { few = v.few; small = v.small; within = omega arith; hurdles_fit = j; befores_fit = v.befores_fit; aheads_fit = v.aheads_fit };
        holds =
            record {
              befores-hold = pop-back_holds before_at nan s (held s w.hurdles) w.befores before_windowed gs x e n p g.holds.befores-hold;
              aheads-hold = pop-back_holds ahead_at 0 s (held s w.hurdles) w.aheads ahead_windowed gs x e n p g.holds.aheads-hold;
            };
      }

  front_gone : Good (windows (at w.state (w.state.start + 1) (w.state.count - 1)) w.hurdles w.befores w.aheads)
  front_gone =
      let s = w.state in
      let v = g.valid in
      let i = v.within in
      let j = v.hurdles_fit in
      let gs = held (at s (s.start + 1) (s.count - 1)) w.hurdles in
      let x = get_or w.hurdles s.start 0 in
      let e : held s w.hurdles ≡ x ∷ gs = held_all_front s w.hurdles p (omega arith) in
      let n : length gs ≡ s.count - 1 = length-held (at s (s.start + 1) (s.count - 1)) w.hurdles (omega arith) in
      record {
        valid = record { few = v.few; small = v.small; within = omega arith; hurdles_fit = j; befores_fit = v.befores_fit; aheads_fit = v.aheads_fit };
        holds =
            record {
              befores-hold = pop_front_holds before_at nan s (held s w.hurdles) w.befores before_windowed gs x e n p g.holds.befores-hold;
              aheads-hold = pop_front_holds ahead_at 0 s (held s w.hurdles) w.aheads ahead_windowed gs x e n p g.holds.aheads-hold;
            };
      }

-- a pop keeps good windows good
module _ (w : Windows) (to : ℕ) (g : Good w) (gone : 0 < w.state.count → Good (windows (at w.state to (w.state.count - 1)) w.hurdles w.befores w.aheads)) where
  popped_good : Good (windows (popped to w.state) w.hurdles w.befores w.aheads)
  popped_good =
      let s = w.state in
      let in_memory : AnalogHistory → Windows = λ t. windows t w.hurdles w.befores w.aheads in
      ⊎_elim
      (λ z. ⊎_elim
      (λ n. subst (λ (t : AnalogHistory). Good (in_memory t)) (popped-none s to z n) g)
      (λ n. subst (λ (t : AnalogHistory). Good (in_memory t)) (popped-some s to z n) (gone (omega arith)))
      (zero_or_not s.count))
      (λ n. subst (λ (t : AnalogHistory). Good (in_memory t)) (popped-refused s to n) g)
      (zero_or_not (state_refusal s))

pub pop-back_good : (w : Windows) → Good w → Good (pop_back_in w)
pop-back_good w g = popped_good w w.state.start g (back_gone w g)

pub pop_front_good : (w : Windows) → Good w → Good (pop_front_in w)
pop_front_good w g = popped_good w (w.state.start + 1) g (front_gone w g)

-- with no hurdle there is no window
pub empty_good : (w : Windows) → ValidIn w → w.state.count ≡ 0 → Good w
unfolding Holds
empty_good w v e =
    record {
      valid = v;
      holds =
          record {
            befores-hold = λ d k t a b. absurd (let l = ahead-least (target_at w.state d) in let f : ⊥ = omega arith in f);
            aheads-hold = λ d k t a b. absurd (let l = ahead-least (target_at w.state d) in let f : ⊥ = omega arith in f);
          };
    }

pub good-stored : (w : Windows) → Good w → WellStored w
good-stored w g = let i = g.valid.within in let j = g.valid.hurdles_fit in holds-stored w (omega arith) g.holds

pub stored_good : (w : Windows) → ValidIn w → WellStored w → Good w
stored_good w v h = let i = v.within in let j = v.hurdles_fit in record { valid = v; holds = stored_holds w (omega arith) h }

-- what one call leaves, of any well stored windows
pub push-back-stored : (w : Windows) (x : ℕ) → ValidIn w → WellStored w → WellStored (push_back_of x w)
push-back-stored w x v h = good-stored (push_back_of x w) (push-back_good w x (stored_good w v h))

pub push_front-stored : (w : Windows) (x : ℕ) → ValidIn w → WellStored w → WellStored (push_front_of x w)
push_front-stored w x v h = good-stored (push_front_of x w) (push_front_good w x (stored_good w v h))

pub pop-back-stored : (w : Windows) → ValidIn w → WellStored w → WellStored (pop_back_in w)
pop-back-stored w v h = good-stored (pop_back_in w) (pop-back_good w (stored_good w v h))

pub pop_front-stored : (w : Windows) → ValidIn w → WellStored w → WellStored (pop_front_in w)
pop_front-stored w v h = good-stored (pop_front_in w) (pop_front_good w (stored_good w v h))
