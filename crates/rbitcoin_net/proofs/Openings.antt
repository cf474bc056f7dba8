-- `new` leaves the Rust's new history. Assumes nothing.
use Prim.Native.Nat.{ℕ, zero, suc, ◌≤◌}
use mathlib.Core.Path.{◌≡◌, refl, sym, ◌∙◌, ap, subst}
use mathlib.Core.Bool.{false, cond}
use mathlib.Core.List.{List, []}
use mathlib.Core.Option.{none}
use native.Mathlib.Omega.{arith}
use lib.ListN.{length, get_or}
use borrow.Author.Tests.{eq-eqb, ne_eqb}
use Rattle.slices.specs.Lists.{tabulate}
use Rattle.slices.proofs.Lists.{tabulate-at, tabulate-is, tabulate-same}
use Rattle.rbitcoin_mempool.specs.declared.fee_analog.history.AnalogHistory.{AnalogHistory}
use Rattle.rbitcoin_mempool.specs.Outcome.{done, refused, verdict_number, verdict_of}
use Rattle.rbitcoin_mempool.specs.Windows.{held, Valid}
use Rattle.rbitcoin_mempool.specs.Windows.{fresh as fresh_windows, unopened as unopened_windows, opened as opened_windows, open_refusal as windows_open_refusal, state_refusal as windows_refusal, size_refusal as windows_size_refusal, lent_refusal as windows_lent_refusal}
use Rattle.rbitcoin_mempool.proofs.Kept.{empty_good, good-stored}
use Rattle.rbitcoin_mempool.proofs.Refusals.{refusing, first_stands, then_second}
use Rattle.rbitcoin_mempool.proofs.Refusals.{lent as windows-lent}
use Rattle.rbitcoin_net.specs.History.{new, hurdles_of}
use Rattle.rbitcoin_net.specs.Lent.{Lent, view, held_rows, hashes_in, kept_rates, windows_of, state_refusal, Sound}
use Rattle.rbitcoin_net.specs.Openings.{fresh_of, memory_refusal, open_refusal, Opens}
use Rattle.rbitcoin_net.specs.declared.fee_history.FeeHistory.{FeeHistory}
use Rattle.rbitcoin_net.proofs.Refusals.{both_zero, parts-lent, state_taken}

-- the windows' refusal, from their answer
pub refusal_is : (k : ℕ) → verdict_number (verdict_of k) ≡ k
unfolding verdict_of
refusal_is zero = refl
refusal_is (suc k) = refl

-- the targets, padded to 16, and taken back
padded-back : (targets : List ℕ) → length targets ≤ 16 → tabulate (λ d. get_or (tabulate (λ i. get_or targets i 0) 0 16) d 0) 0 (length targets) ≡ targets
padded-back targets l =
    let g : ℕ → ℕ = λ i. get_or targets i 0 in
    let n = length targets in
    tabulate-same (λ d. get_or (tabulate g 0 16) d 0) g 0 n (λ k u v. tabulate-at g 0 16 k (omega arith))
    ∙ sym (tabulate-is g 0 n targets refl (λ k m. refl))

module _ (budget : ℕ) (targets : List ℕ) (c : ℕ) (m : Lent) (z : open_refusal targets c m ≡ 0) where
  abbrev state : FeeHistory
  state = fresh_of budget (fresh_windows targets c)

  taken : (windows_open_refusal targets c (length m.hurdles) (length m.befores) (length m.aheads) ≡ 0) × (memory_refusal c (length m.rows.heights) (length m.rows.marks) (length m.rows.rates) (length m.rows.sizes) (length m.hashes.heights) (length m.hashes.bytes) ≡ 0)
  unfolding open_refusal
  taken = both_zero _ _ z

  windows_taken : windows_lent_refusal (fresh_windows targets c) (length m.hurdles) (length m.befores) (length m.aheads) ≡ 0
  unfolding windows_open_refusal
  windows_taken = taken.0

  valid : Valid (fresh_windows targets c) (length m.hurdles) (length m.befores) (length m.aheads)
  valid = windows-lent (fresh_windows targets c) _ _ _ windows_taken

  pub open-view : view state m ≡ new budget targets
  unfolding view fresh_of held_rows hashes_in tabulate kept_rates held fresh_windows
  open-view = let v = valid in λ i. record { blocks = []; total = 0; budget = budget; targets = padded-back targets v.few i; hashes = []; hurdles = []; stale = false; rates = none }

  windows_parts : (windows_refusal (fresh_windows targets c) ≡ 0) × (windows_size_refusal (fresh_windows targets c) (length m.hurdles) (length m.befores) (length m.aheads) ≡ 0)
  unfolding windows_lent_refusal
  windows_parts = both_zero (windows_refusal (fresh_windows targets c)) _ windows_taken

  state-fits : state_refusal state ≡ 0
  unfolding fresh_of fresh_windows
  state-fits = sym (state_taken state 0 (sym windows_parts.0) refl (omega arith) (omega arith))

  pub open-sound : Sound state m
  unfolding memory_refusal fresh_of fresh_windows held_rows hashes_in tabulate held hurdles_of
  open-sound =
      let r = both_zero _ _ taken.1 in
      record {
        lent = parts-lent state m (record { state = state-fits; rows = r.0; hashes = r.1; windows = windows_parts.1 });
        ascends = record {};
        hashes_ascend = record {};
        stored = good-stored (windows_of state m) (empty_good (windows_of state m) valid refl);
        hurdles = λ st. refl;
      }

module _ (budget : ℕ) (targets : List ℕ) (c : ℕ) (m : Lent) (t : FeeHistory) where
  pub opens-refused : (k : ℕ) → k ≡ open_refusal targets c m → (k ≡ 0 → ⊥) → t ≡ fresh_of 0 unopened_windows → Opens budget targets c m (refused k) t
  opens-refused k e n d =
      let r : open_refusal targets c m ≡ 0 → ⊥ = λ y. n (e ∙ y) in
      record {
        outcome = ap refused e ∙ refusing (open_refusal targets c m) r;
        is = d ∙ ap (λ b. cond b (fresh_of budget (fresh_windows targets c)) (fresh_of 0 unopened_windows)) (sym (ne_eqb _ 0 r));
        means = λ y. absurd (r y);
        sound = λ y. absurd (r y);
      }

  pub opens-done : open_refusal targets c m ≡ 0 → t ≡ fresh_of budget (fresh_windows targets c) → Opens budget targets c m done t
  unfolding verdict_of
  opens-done z d = record {
    outcome = ap verdict_of (sym z);
    is = d ∙ ap (λ b. cond b (fresh_of budget (fresh_windows targets c)) (fresh_of 0 unopened_windows)) (sym (eq-eqb _ 0 z));
    means = λ y. ap (λ (s : FeeHistory). view s m) d ∙ open-view budget targets c m z;
    sound = λ y. subst (λ (s : FeeHistory). Sound s m) (sym d) (open-sound budget targets c m z);
  }

-- by the code's branches: w is the windows' refusal, k the memory's
module _ (budget : ℕ) (targets : List ℕ) (c : ℕ) (m : Lent) (t : FeeHistory) (w : ℕ) (w-is : w ≡ windows_open_refusal targets c (length m.hurdles) (length m.befores) (length m.aheads)) where
  pub new-refused : (w ≡ 0 → ⊥) → t ≡ fresh_of 0 unopened_windows → Opens budget targets c m (refused w) t
  unfolding open_refusal
  new-refused n d = opens-refused budget targets c m t w (first_stands _ _ w w-is n) n d

  module _ (z : w ≡ 0) (k : ℕ) (e : k ≡ memory_refusal c (length m.rows.heights) (length m.rows.marks) (length m.rows.rates) (length m.rows.sizes) (length m.hashes.heights) (length m.hashes.bytes)) where
    whole : k ≡ open_refusal targets c m
    unfolding open_refusal
    whole = then_second _ _ w k w-is z e

    pub new_short : (k ≡ 0 → ⊥) → t ≡ fresh_of 0 unopened_windows → Opens budget targets c m (refused k) t
    new_short n d = opens-refused budget targets c m t k whole n d

    pub new-done : (a : AnalogHistory) → a ≡ opened_windows targets c (length m.hurdles) (length m.befores) (length m.aheads) → k ≡ 0 → t ≡ fresh_of budget a → Opens budget targets c m done t
    unfolding opened_windows
    new-done a left y d =
        opens-done budget targets c m t (sym whole ∙ y) (d ∙ ap (fresh_of budget) (left ∙ ap (λ b. cond b (fresh_windows targets c) unopened_windows) (eq-eqb _ 0 (sym w-is ∙ z))))
