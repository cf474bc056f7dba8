-- Laws of a rebuild: the turns of its loop, that it holds the hurdles it was given, and that it changes neither targets nor capacity. Assumes nothing.
use Rattle.std.proofs.Common.{◌≡◌, ℕ, ◌+◌, ◌/◌, ◌<◌, ◌≤◌, Bool, true, false, cond, eqb, List, [], ◌∷◌, ◌++◌, length, get_or, drop, sym, refl, ap, ◌∙◌, subst, ⊎_elim, append_assoc, append-nil, add-one, arith, length-append, drop_of_length-le, drop-cons, eq-eqb, ne_eqb}
use Rattle.rbitcoin_mempool.specs.Reached.{SetUpAs}
use Rattle.rbitcoin_mempool.specs.Windows.{WellStored, Windows, emptied, free_of, held, held_in, moved_to, push_all, push_back_of, push_refusal_of, rebuild_refusal_of, rebuilt_of, room_back, store_back, with_pairs}
use Rattle.rbitcoin_mempool.proofs.Kept.{Good, empty_good, good-stored, push-back_good}
use Rattle.rbitcoin_mempool.proofs.Parts.{length-held}
use Rattle.rbitcoin_mempool.proofs.Pushes.{ValidIn}
use Rattle.rbitcoin_mempool.proofs.Refusals.{accepts, rebuild-accepted, zero_or_not}
use Rattle.rbitcoin_mempool.proofs.Views.{push-back-held, push-back-set-up, same-set-up, set-up, set-up_then}

pub all_turn : (xs : List ℕ) (i : ℕ) (w u v : Windows) → i < length xs → v ≡ push_back_of (get_or xs i 0) w → push_all (drop i xs) w ≡ u → push_all (drop (i + 1) xs) v ≡ u
unfolding push_all
all_turn xs i w u v h e inv =
    ap (push_all (drop (i + 1) xs)) e
    ∙ ap (λ (n : ℕ). push_all (drop n xs) (push_back_of (get_or xs i 0) w)) (add-one i)
    ∙ sym (ap (λ (l : List ℕ). push_all l w) (drop-cons xs i 0 h))
    ∙ inv

pub all_done : (xs : List ℕ) (i : ℕ) (w u : Windows) → length xs ≤ i → push_all (drop i xs) w ≡ u → w ≡ u
unfolding push_all
all_done xs i w u h inv = sym (ap (λ (l : List ℕ). push_all l w) (drop_of_length-le xs h)) ∙ inv

pub push-back-count : (w : Windows) (x : ℕ) → push_refusal_of w ≡ 0 → (push_back_of x w).state.count ≡ w.state.count + 1
unfolding push_back_of with_pairs store_back room_back moved_to
push-back-count w x z = rw (eq-eqb (push_refusal_of w) 0 z) (by (eqb (w.state.start + w.state.count) w.state.capacity))
  where
    by : (b : Bool) → (with_pairs true (store_back x (cond b (moved_to (free_of w.state / 4) w) w))).state.count ≡ w.state.count + 1
    by true = refl
    by false = refl

all_good : (xs : List ℕ) (w : Windows) → Good w → Good (push_all xs w)
unfolding push_all
all_good [] w g = g
all_good (x ∷ xs) w g = all_good xs (push_back_of x w) (push-back_good w x g)

held-count : (w : Windows) → Good w → length (held_in w) ≡ w.state.count
held-count w g = let v = g.valid in let i = v.within in let j = v.hurdles_fit in length-held w.state w.hurdles (omega arith)

-- hurdles for which there is room are all held
all_held : (xs : List ℕ) (w : Windows) → Good w → length (held_in w) + length xs ≤ w.state.capacity → held_in (push_all xs w) ≡ held_in w ++ xs
unfolding push_all
all_held [] w g h = sym (append-nil (held_in w))
all_held (x ∷ xs) w g h =
    let c = held-count w g in
    let z : push_refusal_of w ≡ 0 = accepts w.state _ _ _ g.valid (omega arith) in
    let e : held_in (push_back_of x w) ≡ held_in w ++ (x ∷ []) = push-back-held w x z in
    let n : length (held_in (push_back_of x w)) ≡ length (held_in w) + 1 = ap length e ∙ length-append (held_in w) (x ∷ []) in
    let k = (push-back-set-up w x).same_capacity in
    all_held xs (push_back_of x w) (push-back_good w x g) (omega arith)
    ∙ ap (λ (l : List ℕ). l ++ xs) e
    ∙ append_assoc (held_in w) (x ∷ []) xs

module _ (xs : List ℕ) (w : Windows) where
  pub rebuild-done : rebuild_refusal_of xs w ≡ 0 → push_all xs (emptied w) ≡ rebuilt_of xs w
  unfolding rebuilt_of
  rebuild-done e = sym (rw (eq-eqb (rebuild_refusal_of xs w) 0 e))

  pub rebuild-refused : (rebuild_refusal_of xs w ≡ 0 → ⊥) → w ≡ rebuilt_of xs w
  unfolding rebuilt_of
  rebuild-refused e = sym (rw (ne_eqb (rebuild_refusal_of xs w) 0 e))

  module _ (z : rebuild_refusal_of xs w ≡ 0) where
    empty_valid : ValidIn (emptied w)
    empty_valid =
        let v = (rebuild-accepted (length xs) w.state _ _ _ z).0 in
        record { few = v.few; small = v.small; within = omega arith; hurdles_fit = v.hurdles_fit; befores_fit = v.befores_fit; aheads_fit = v.aheads_fit }

    pub empty-is_good : Good (emptied w)
    empty-is_good = empty_good (emptied w) empty_valid refl

    pub rebuilt-stored : WellStored (rebuilt_of xs w)
    rebuilt-stored = subst WellStored (rebuild-done z) (good-stored (push_all xs (emptied w)) (all_good xs (emptied w) empty-is_good))

    pub rebuilt-held : held_in (rebuilt_of xs w) ≡ xs
    unfolding held
    rebuilt-held =
        let r = (rebuild-accepted (length xs) w.state _ _ _ z).1 in
        subst (λ (u : Windows). held_in u ≡ xs) (rebuild-done z) (all_held xs (emptied w) empty-is_good (omega arith))

pub rebuild_good : (xs : List ℕ) (w : Windows) → Good w → Good (rebuilt_of xs w)
rebuild_good xs w g =
    ⊎_elim
    (λ z. subst Good (rebuild-done xs w z) (all_good xs (emptied w) (empty-is_good xs w z)))
    (λ n. subst Good (rebuild-refused xs w n) g)
    (zero_or_not (rebuild_refusal_of xs w))

-- a rebuild changes neither targets nor capacity
pub all-set-up : (xs : List ℕ) (w : Windows) → SetUpAs w.state (push_all xs w).state
unfolding push_all
all-set-up [] w = same-set-up w.state
all-set-up (x ∷ xs) w = set-up_then (push-back-set-up w x) (all-set-up xs (push_back_of x w))

pub rebuilt-set-up : (xs : List ℕ) (w : Windows) → SetUpAs w.state (rebuilt_of xs w).state
unfolding rebuilt_of
rebuilt-set-up xs w = by (eqb (rebuild_refusal_of xs w) 0)
  where
    by : (a : Bool) → SetUpAs w.state (cond a (push_all xs (emptied w)) w).state
    by true = set-up_then (set-up w.state 0 0) (all-set-up xs (emptied w))
    by false = same-set-up w.state
