-- After any calls the stored pairs of each target are the pairs of the held hurdles. Assumes nothing.
use Rattle.std.proofs.Common.{◌≡◌, ℕ, ◌<◌, ◌≤◌, Bool, true, false, cond, eqb, ltb, List, length, sym, refl, ap, ◌∙◌, ⊎_elim, arith, ltb-true, lt-ltb, eq-eqb, ne_eqb}
use native.Mathlib.Decide.{dec_le}
use lib.Ieee.{Float}
use Rattle.rbitcoin_mempool.specs.Answer.{Answer, none}
use Rattle.rbitcoin_mempool.specs.Counted.{count, counted_of}
use Rattle.slices.specs.Search.{seek}
use Rattle.slices.proofs.Seeking.{sought}
use Rattle.rbitcoin_mempool.specs.declared.fee_analog.history.AnalogHistory.{AnalogHistory}
use Rattle.rbitcoin_mempool.specs.Pairs.{ahead_of, pairs_of, windows_in}
use Rattle.rbitcoin_mempool.specs.Reached.{Reached, by_new, by_pop_back, by_pop_front, by_push_back, by_push_front, by_rebuild}
use Rattle.rbitcoin_mempool.specs.Scan.{answer_after, rate_among, rate_in, rate_sat_kvb}
use Rattle.rbitcoin_mempool.specs.Windows.{Valid, WellStored, Windows, find_target, fresh, held_in, open_refusal, opened, pair_count, state_refusal, stored_pairs, target_at, unopened, windows}
use Rattle.rbitcoin_mempool.proofs.Grown.{pairs-counted}
use Rattle.rbitcoin_mempool.proofs.Kept.{Good, empty_good, good-stored, pop-back_good, pop_front_good, push-back_good, push_front_good}
use Rattle.rbitcoin_mempool.proofs.Parts.{length-held}
use Rattle.rbitcoin_mempool.proofs.Rebuilds.{rebuild_good}
use Rattle.rbitcoin_mempool.proofs.Refusals.{lent, scans, valid-state, zero_or_not}
use Rattle.rbitcoin_mempool.proofs.Scans.{counted_tracked, tracked_pairs}

unopened_valid : (h b a : ℕ) → Valid unopened h b a
unfolding unopened
unopened_valid h b a = record { few = omega arith; small = omega arith; within = omega arith; hurdles_fit = omega arith; befores_fit = omega arith; aheads_fit = omega arith }

-- an opening, accepted or refused, holds nothing
open_good : (targets : List ℕ) (capacity : ℕ) (hs : List ℕ) (bs : List Float) (ds : List ℕ) → Good (windows (opened targets capacity (length hs) (length bs) (length ds)) hs bs ds)
unfolding opened open_refusal fresh unopened
open_good targets capacity hs bs ds =
    ⊎_elim
    (λ z. rw (eq-eqb _ 0 z) (empty_good (windows (fresh targets capacity) hs bs ds) (lent _ _ _ _ z) refl))
    (λ n. rw (ne_eqb _ 0 n) (empty_good (windows unopened hs bs ds) (unopened_valid (length hs) (length bs) (length ds)) refl))
    (zero_or_not (open_refusal targets capacity (length hs) (length bs) (length ds)))

pub reached_good : {w : Windows} → Reached w → Good w
reached_good (by_new targets capacity hs bs ds) = open_good targets capacity hs bs ds
reached_good (by_push_back u x r) = push-back_good u x (reached_good r)
reached_good (by_push_front u x r) = push_front_good u x (reached_good r)
reached_good (by_pop_back u r) = pop-back_good u (reached_good r)
reached_good (by_pop_front u r) = pop_front_good u (reached_good r)
reached_good (by_rebuild u xs r) = rebuild_good xs u (reached_good r)

pub reached-stored : (w : Windows) → Reached w → WellStored w
reached-stored w r = good-stored w (reached_good r)

not-true : false ≡ true → ⊥
not-true e = let f : ◌≡◌ {A = ℕ} 0 1 = ap (λ b. cond b 1 0) e in omega arith

well-stored : (w : Windows) → WellStored w → (d : ℕ) → d < w.state.tracked → stored_pairs w d ≡ pairs_of (held_in w) (target_at w.state d)
unfolding WellStored
well-stored w h = h

-- so `pairs` counts the pairs of the stored hurdles, and a rate is one of the hurdles alone
module _ (w : Windows) (r : Reached w) (n : ℕ) where
  count_held : length (held_in w) ≡ w.state.count
  count_held = let v = (reached_good r).valid in let i = v.within in let j = v.hurdles_fit in length-held w.state w.hurdles (omega arith)

  pub reached_pairs : find_target w.state n < w.state.tracked → pair_count w.state n ≡ length (pairs_of (held_in w) n)
  reached_pairs h = sym (counted_tracked w.state n h) ∙ ap (λ c. windows_in c n) (sym count_held) ∙ sym (pairs-counted (held_in w) n)

  pairs-or-none : (b : Bool) → ltb (find_target w.state n) w.state.tracked ≡ b → pair_count w.state n ≡ cond b (length (pairs_of (held_in w) n)) 0
  unfolding pair_count
  pairs-or-none true e = reached_pairs (ltb-true _ _ e)
  pairs-or-none false e = ap (λ b. cond b (windows_in w.state.count n) 0) e

  pub reached-count : counted_of (state_refusal w.state) (pair_count w.state n) ≡ count (cond (ltb (find_target w.state n) w.state.tracked) (length (pairs_of (held_in w) n)) 0)
  unfolding counted_of
  reached-count =
      ap (λ k. counted_of k (pair_count w.state n)) (valid-state w.state (length w.hurdles) (length w.befores) (length w.aheads) (reached_good r).valid)
      ∙ ap count (pairs-or-none (ltb (find_target w.state n) w.state.tracked) refl)

-- the rate of the held hurdles, none for a target not tracked
abbrev held_rate : Windows → ℕ → Float → Answer
held_rate w n c = cond (ltb (find_target w.state n) w.state.tracked) (rate_among (held_in w) (pairs_of (held_in w) n) n c) none

module _ (w : Windows) (g : Good w) (n : ℕ) where
  rate-held : (c : Float) → rate_in w n c ≡ held_rate w n c
  unfolding rate_in
  rate-held c = go (ltb (find_target w.state n) w.state.tracked) refl
    where
      go : (b : Bool) → ltb (find_target w.state n) w.state.tracked ≡ b
          → cond b (rate_among (held_in w) (stored_pairs w (find_target w.state n)) n c) none ≡ cond b (rate_among (held_in w) (pairs_of (held_in w) n) n c) none
      go true e =
          let h = ltb-true _ _ e in
          ap (λ ps. rate_among (held_in w) ps n c) (well-stored w (good-stored w g) (find_target w.state n) h ∙ tracked_pairs w.state n h (held_in w))
      go false e = refl

  -- with z places of scratch, the capacity at the least, nothing is refused
  pub good-rate : (z : ℕ) (c : Float) → w.state.capacity ≤ z → rate_sat_kvb w z n c ≡ held_rate w n c
  unfolding rate_sat_kvb answer_after
  good-rate z c y =
      ap (λ k. answer_after k (rate_in w n c)) (scans w.state (length w.hurdles) (length w.befores) (length w.aheads) g.valid z y)
      ∙ rate-held c

pub reached-rate : (w : Windows) → Reached w → (n z : ℕ) (c : Float) → w.state.capacity ≤ z → rate_sat_kvb w z n c ≡ held_rate w n c
reached-rate w r n z c y = good-rate w (reached_good r) n z c y

-- a target among those tracked is found
module _ (s : AnalogHistory) (d : ℕ) (h : d < s.tracked) where
  among : find_target s (target_at s d) ≤ d
  unfolding find_target
  among = go (dec_le (seek (λ k. eqb (ahead_of (target_at s k)) (ahead_of (target_at s d))) 0 s.tracked) d)
    where
      go : Dec (seek (λ k. eqb (ahead_of (target_at s k)) (ahead_of (target_at s d))) 0 s.tracked ≤ d) → seek (λ k. eqb (ahead_of (target_at s k)) (ahead_of (target_at s d))) 0 s.tracked ≤ d
      go (yes l) = l
      go (no n) =
          let f = sought (λ k. eqb (ahead_of (target_at s k)) (ahead_of (target_at s d))) 0 s.tracked in
          absurd (not-true (sym (f.before d (omega arith) (omega arith)) ∙ eq-eqb (ahead_of (target_at s d)) (ahead_of (target_at s d)) refl))

  pub among_tracked : find_target s (target_at s d) < s.tracked
  among_tracked = let l = among in omega arith

-- so target number d of good windows has the rate of the held hurdles
pub tracked-rate : (w : Windows) → Good w → (d z : ℕ) (c : Float) → d < w.state.tracked → w.state.capacity ≤ z → rate_sat_kvb w z (target_at w.state d) c ≡ rate_among (held_in w) (pairs_of (held_in w) (target_at w.state d)) (target_at w.state d) c
tracked-rate w g d z c h y =
    let n = target_at w.state d in
    good-rate w g n z c y ∙ ap (λ b. cond b (rate_among (held_in w) (pairs_of (held_in w) n) n c) none) (lt-ltb _ _ (among_tracked w.state d h))
