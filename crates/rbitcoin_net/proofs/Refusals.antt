-- What the refusals leave, by the tests that they are made of. Assumes nothing.
use Prim.Native.Nat.{ℕ, ◌+◌, ◌*◌, ◌≤◌}
use mathlib.Core.Path.{◌≡◌, refl, sym, ◌∙◌, ap}
use mathlib.Core.Logic.{⊎_elim}
use mathlib.Core.Bool.{Bool, true, false, cond}
use native.Mathlib.Omega.{arith}
use lib.Dec.{ltb, eqb}
use lib.ListN.{length}
use borrow.Author.Tests.{le-ltb, ltb-false, eqb-true}
use Rattle.rbitcoin_mempool.specs.declared.fee_analog.history.AnalogHistory.{AnalogHistory}
use Rattle.rbitcoin_mempool.specs.Reached.{SetUpAs as WindowsSetUpAs}
use Rattle.rbitcoin_mempool.specs.Windows.{or_else, Valid}
use Rattle.rbitcoin_mempool.specs.Windows.{state_refusal as windows_refusal, size_refusal as windows_size_refusal, lent_refusal as windows_lent_refusal}
use Rattle.rbitcoin_mempool.proofs.Refusals.{then_second, or-else-first, or-else_second, zero_or_not, valid-state}
use Rattle.rbitcoin_mempool.proofs.Refusals.{sound as windows-sound, lent as windows-lent}
use Rattle.rbitcoin_net.specs.Lent.{Lent, state_refusal, rows_refusal, hashes_refusal, lent_refusal}
use Rattle.rbitcoin_net.specs.Cuts.{truncate_refusal}
use Rattle.rbitcoin_net.specs.Rates.{rates_refusal}
use Rattle.rbitcoin_net.specs.Readers.{entries_refusal, recent_refusal}
use Rattle.rbitcoin_net.specs.declared.fee_history.FeeHistory.{FeeHistory}

module _ (s : FeeHistory) (w : ℕ) (e : w ≡ windows_refusal s.analog) (z : w ≡ 0) where
  pub state_taken : s.start + s.count ≤ s.analog.capacity → s.hashes ≤ 144 → 0 ≡ state_refusal s
  unfolding state_refusal
  state_taken g h = then_second _ _ w 0 e z (sym (rw (le-ltb _ _ g, le-ltb _ _ h)))

-- a first refusal of 0 and a second of 0 are none, and none is both
pub both_zero : (x y : ℕ) → or_else x y ≡ 0 → (x ≡ 0) × (y ≡ 0)
both_zero x y e = ⊎_elim (λ z. (z, sym (or-else_second x y z) ∙ e)) (λ n. absurd (n (sym (or-else-first x y n) ∙ e))) (zero_or_not x)

-- a test that is not refused with 5
pub passed : (b : Bool) (y : ℕ) → cond b 5 y ≡ 0 → (b ≡ false) × (y ≡ 0)
passed true y e = absurd (let f : ⊥ = omega arith in f)
passed false y e = (refl, e)

-- what a state that is not refused tells
pub record Within (s : FeeHistory) : Type 0 where
  pub few : s.analog.tracked ≤ 16
  pub small : s.analog.capacity ≤ 65536
  pub windows : s.analog.start + s.analog.count ≤ s.analog.capacity
  pub rows : s.start + s.count ≤ s.analog.capacity
  pub hashes : s.hashes ≤ 144

pub within : (s : FeeHistory) → state_refusal s ≡ 0 → Within s
unfolding state_refusal
within s e =
    let a = both_zero _ _ e in
    let w = windows-sound s.analog a.0 in
    let b = passed _ _ a.1 in
    let c = passed _ _ b.1 in
    record { few = w.few; small = w.small; windows = w.within; rows = ltb-false _ _ b.0; hashes = ltb-false _ _ c.0 }

-- rows that are not refused reach c places
pub record Reach (c h m r z : ℕ) : Type 0 where
  pub heights : c ≤ h
  pub marks : c ≤ m
  pub rates : c ≤ r
  pub sizes : c ≤ z

pub reach : (c h m r z : ℕ) → rows_refusal c h m r z ≡ 0 → Reach c h m r z
unfolding rows_refusal
reach c h m r z e =
    let a = passed _ _ e in
    let b = passed _ _ a.1 in
    let d = passed _ _ b.1 in
    let f = passed _ _ d.1 in
    record { heights = ltb-false _ _ a.0; marks = ltb-false _ _ b.0; rates = ltb-false _ _ d.0; sizes = ltb-false _ _ f.0 }

pub hash-reach : (h b : ℕ) → hashes_refusal h b ≡ 0 → (144 ≤ h) × (4608 ≤ b)
hash-reach h b e =
    let a = passed _ _ e in
    (ltb-false _ _ a.0, ltb-false _ _ (passed _ _ a.1).0)

-- a call that lends the rows and is not refused: the held rows lie in every list
pub rows-lent : (s : FeeHistory) (h m r z : ℕ) → or_else (state_refusal s) (rows_refusal s.analog.capacity h m r z) ≡ 0 → Reach (s.start + s.count) h m r z
rows-lent s h m r z e =
    let a = both_zero _ _ e in
    let w = within s a.0 in
    let v = reach _ h m r z a.1 in
    record { heights = omega arith; marks = omega arith; rates = omega arith; sizes = omega arith }

-- `recent_hashes` not refused: the hashes lie in the lists, and fit the caller's
pub record RecentFits (n h b to-h to-b : ℕ) : Type 0 where
  pub few : n ≤ 144
  pub heights : n ≤ h
  pub bytes : 32 * n ≤ b
  pub to-heights : n ≤ to-h
  pub to-bytes : 32 * n ≤ to-b

pub recent-fits : (s : FeeHistory) (h b to-h to-b : ℕ) → recent_refusal s h b to-h to-b ≡ 0 → RecentFits s.hashes h b to-h to-b
unfolding recent_refusal
recent-fits s h b to-h to-b e =
    let a = both_zero _ _ e in
    let l = both_zero _ _ a.0 in
    let n = (within s l.0).hashes in
    let r = hash-reach h b l.1 in
    let c = passed _ _ a.1 in
    let d = passed _ _ c.1 in
    record { few = n; heights = omega (arith, r.0); bytes = omega (arith, r.1); to-heights = ltb-false _ _ c.0; to-bytes = ltb-false _ _ d.0 }

-- `entries` not refused: the rows lie in the lists, and fit the caller's
pub entries_fit : (s : FeeHistory) (h m r z to-h to-m to-r to-z : ℕ) → entries_refusal s h m r z to-h to-m to-r to-z ≡ 0
    → (s.start + s.count ≤ 65536) × Reach (s.start + s.count) h m r z × Reach s.count to-h to-m to-r to-z
unfolding entries_refusal
entries_fit s h m r z to-h to-m to-r to-z e =
    let a = both_zero _ _ (both_zero (cond (eqb to-r to-m) 0 1) _ e).1 in
    let w = within s (both_zero _ _ a.0).0 in
    (omega arith, rows-lent s h m r z a.0, reach s.count to-h to-m to-r to-z a.1)

-- `truncate_above` not refused: rows and hashes lie in the lists
pub truncate-fits : (s : FeeHistory) (h m r z zh zb : ℕ) → truncate_refusal s h m r z zh zb ≡ 0 → Reach (s.start + s.count) h m r z × (s.hashes ≤ zh)
unfolding truncate_refusal
truncate-fits s h m r z zh zb e =
    let a = both_zero (or_else (state_refusal s) (rows_refusal s.analog.capacity h m r z)) (hashes_refusal zh zb) e in
    let w = within s (both_zero (state_refusal s) _ a.0).0 in
    let k = hash-reach zh zb a.1 in
    (rows-lent s h m r z a.0, omega (arith, w.hashes, k.0))

-- all that is lent is taken exactly where each part is
abbrev rows_in : FeeHistory → Lent → ℕ
rows_in s m = rows_refusal s.analog.capacity (length m.rows.heights) (length m.rows.marks) (length m.rows.rates) (length m.rows.sizes)

abbrev hashes_in : Lent → ℕ
hashes_in m = hashes_refusal (length m.hashes.heights) (length m.hashes.bytes)

abbrev pairs_in : FeeHistory → Lent → ℕ
pairs_in s m = windows_size_refusal s.analog (length m.hurdles) (length m.befores) (length m.aheads)

pub record LentParts (s : FeeHistory) (m : Lent) : Type 0 where
  pub state : state_refusal s ≡ 0
  pub rows : rows_in s m ≡ 0
  pub hashes : hashes_in m ≡ 0
  pub windows : pairs_in s m ≡ 0

pub lent_parts : (s : FeeHistory) (m : Lent) → lent_refusal s m ≡ 0 → LentParts s m
unfolding lent_refusal
lent_parts s m e =
    let a = both_zero (or_else (state_refusal s) (rows_in s m)) (or_else (hashes_in m) (pairs_in s m)) e in
    let b = both_zero (state_refusal s) (rows_in s m) a.0 in
    let c = both_zero (hashes_in m) (pairs_in s m) a.1 in
    record { state = b.0; rows = b.1; hashes = c.0; windows = c.1 }

pub parts-lent : (s : FeeHistory) (m : Lent) → LentParts s m → lent_refusal s m ≡ 0
unfolding lent_refusal
parts-lent s m p =
    or-else_second (or_else (state_refusal s) (rows_in s m)) (or_else (hashes_in m) (pairs_in s m)) (or-else_second (state_refusal s) (rows_in s m) p.state ∙ p.rows)
    ∙ or-else_second (hashes_in m) (pairs_in s m) p.hashes
    ∙ p.windows

-- the windows of a state whose memory serves are valid
pub windows_valid : (s : FeeHistory) (m : Lent) → lent_refusal s m ≡ 0 → Valid s.analog (length m.hurdles) (length m.befores) (length m.aheads)
unfolding windows_lent_refusal state_refusal
windows_valid s m e =
    let p = lent_parts s m e in
    let w = (both_zero (windows_refusal s.analog) _ p.state).0 in
    windows-lent s.analog _ _ _ (or-else_second (windows_refusal s.analog) _ w ∙ p.windows)

-- memory that served one state serves another of the same capacity and as many targets
sizes-again : (s t : AnalogHistory) (h b a : ℕ) → WindowsSetUpAs s t → windows_size_refusal t h b a ≡ windows_size_refusal s h b a
unfolding windows_size_refusal
sizes-again s t h b a u =
    let c = u.same_capacity in
    let k = u.same_tracked in
    λ i. cond (ltb h (c i)) 5 (cond (ltb b (k i * c i)) 5 (cond (ltb a (k i * c i)) 5 0))

pub lent_again : (s t : FeeHistory) (m : Lent) → WindowsSetUpAs s.analog t.analog → state_refusal t ≡ 0 → lent_refusal s m ≡ 0 → lent_refusal t m ≡ 0
lent_again s t m u z e =
    let p = lent_parts s m e in
    parts-lent t m
    record {
      state = z;
      rows = ap (λ j. rows_refusal j (length m.rows.heights) (length m.rows.marks) (length m.rows.rates) (length m.rows.sizes)) u.same_capacity ∙ p.rows;
      hashes = p.hashes;
      windows = sizes-again s.analog t.analog (length m.hurdles) (length m.befores) (length m.aheads) u ∙ p.windows;
    }

-- what memory that serves a state gives, and is
pub record Serves (s : FeeHistory) (m : Lent) : Type 0 where
  pub rows-within : s.start + s.count ≤ s.analog.capacity
  pub hashes-few : s.hashes ≤ 144
  pub rows-reach : Reach s.analog.capacity (length m.rows.heights) (length m.rows.marks) (length m.rows.rates) (length m.rows.sizes)
  pub heights-reach : 144 ≤ length m.hashes.heights
  pub bytes-reach : 4608 ≤ length m.hashes.bytes
  pub windows : Valid s.analog (length m.hurdles) (length m.befores) (length m.aheads)

pub serves : (s : FeeHistory) (m : Lent) → lent_refusal s m ≡ 0 → Serves s m
serves s m e =
    let p = lent_parts s m e in
    let w = within s p.state in
    let k = hash-reach _ _ p.hashes in
    record { rows-within = w.rows; hashes-few = w.hashes; rows-reach = reach _ _ _ _ _ p.rows; heights-reach = k.0; bytes-reach = k.1; windows = windows_valid s m e }

pub serves-lent : (s : FeeHistory) (m : Lent) → Serves s m → lent_refusal s m ≡ 0
unfolding rows_refusal windows_size_refusal
serves-lent s m v =
    let r = v.rows-reach in
    let w = v.windows in
    parts-lent s m
    record {
      state = sym (state_taken s 0 (sym (valid-state s.analog _ _ _ w)) refl v.rows-within v.hashes-few);
      rows = rw (le-ltb _ _ r.heights, le-ltb _ _ r.marks, le-ltb _ _ r.rates, le-ltb _ _ r.sizes);
      hashes = rw (le-ltb _ _ v.heights-reach, le-ltb _ _ v.bytes-reach);
      windows = rw (le-ltb _ _ w.hurdles_fit, le-ltb _ _ w.befores_fit, le-ltb _ _ w.aheads_fit);
    }

-- a call that lends the rows and is not refused: nor are the windows
pub windows_taken : (s : FeeHistory) (n : ℕ) → or_else (state_refusal s) n ≡ 0 → windows_refusal s.analog ≡ 0
unfolding state_refusal
windows_taken s n e = (both_zero (windows_refusal s.analog) _ (both_zero (state_refusal s) n e).0).0

-- `rates`: after the output lists and the rows; and what it leaves where it refuses nothing
module _ (s : FeeHistory) (h m r z u b a x n o : ℕ) where
  pub record RatesFit : Type 0 where
    pub state : state_refusal s ≡ 0
    pub rows : Reach (s.start + s.count) h m r z
    pub windows : Valid s.analog u b a
    pub scratch : s.analog.capacity ≤ x
    pub numbers : s.analog.tracked ≤ n
    pub marks : s.analog.tracked ≤ o

  same-outputs : (c : Bool) → eqb n o ≡ c → ◌≡◌ {A = ℕ} (cond c 0 1) 0 → n ≡ o
  same-outputs true e d = eqb-true n o e
  same-outputs false e d = absurd (let f : ⊥ = omega arith in f)

  pub rates-fit : rates_refusal s h m r z u b a x n o ≡ 0 → RatesFit
  unfolding rates_refusal windows_lent_refusal state_refusal
  rates-fit e =
      let y = both_zero (cond (eqb n o) 0 1) _ e in
      let l = both_zero _ _ y.1 in
      let w = both_zero _ _ l.1 in
      let t = both_zero _ _ l.0 in
      let c = passed _ _ w.1 in
      let d = passed _ _ c.1 in
      let k : n ≡ o = same-outputs (eqb n o) refl y.0 in
      let f : s.analog.tracked ≤ n = ltb-false _ _ d.0 in
      let v = (both_zero (windows_refusal s.analog) _ t.0).0 in
      record {
        state = t.0;
        rows = rows-lent s h m r z l.0;
        windows = windows-lent s.analog _ _ _ (or-else_second (windows_refusal s.analog) _ v ∙ w.0);
        scratch = ltb-false _ _ c.0;
        numbers = f;
        marks = omega arith;
      }
