-- Two windows with equal parts are equal, and the cases of making room. Assumes nothing.
use Rattle.std.proofs.Common.{◌≡◌, ℕ, ◌+◌, ◌-◌, ◌/◌, List, sym, eq-eqb, ne_eqb}
use lib.Ieee.{Float}
use Rattle.rbitcoin_mempool.specs.Windows.{Valid, Windows, free_of, moved_to, room_back, room_front, windows}
use Rattle.rbitcoin_mempool.specs.declared.fee_analog.history.AnalogHistory.{AnalogHistory}

pub windows-eq : {s t : AnalogHistory} {h i : List ℕ} {b c : List Float} {a d : List ℕ} → s ≡ t → h ≡ i → b ≡ c → a ≡ d → windows s h b a ≡ windows t i c d
windows-eq p q r u = cc

module _ (w : Windows) where
  pub back-moved : w.state.start + w.state.count ≡ w.state.capacity → moved_to (free_of w.state / 4) w ≡ room_back w
  unfolding room_back
  back-moved e = sym (rw (eq-eqb _ _ e))

  pub back-kept : (w.state.start + w.state.count ≡ w.state.capacity → ⊥) → w ≡ room_back w
  unfolding room_back
  back-kept e = sym (rw (ne_eqb _ _ e))

  pub front-moved : w.state.start ≡ 0 → moved_to (free_of w.state - free_of w.state / 4) w ≡ room_front w
  unfolding room_front
  front-moved e = sym (rw (eq-eqb _ _ e))

  pub front_kept : (w.state.start ≡ 0 → ⊥) → w ≡ room_front w
  unfolding room_front
  front_kept e = sym (rw (ne_eqb _ _ e))

-- memory as long is as valid
pub valid_same : (s : AnalogHistory) {h b a i c d : ℕ} → Valid s h b a → i ≡ h → c ≡ b → d ≡ a → Valid s i c d
valid_same s v p q r = rw (p, q, r) v
