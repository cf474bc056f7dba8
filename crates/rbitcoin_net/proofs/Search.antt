-- What the binary search finds where heights ascend. Assumes nothing.
use Prim.Native.Nat.{ℕ, zero, suc, ◌+◌, ◌-◌, ◌≤◌, ◌<◌}
use mathlib.Core.Bool.{Bool, true, false, cond, ◌&&◌}
use mathlib.Core.List.{List}
use mathlib.Core.Option.{Option, none, some}
use mathlib.Core.Path.{◌≡◌, refl, sym, ◌∙◌, ap}
use native.Mathlib.Omega.{arith}
use lib.Dec.{ltb, eqb}
use lib.ListN.{length, get_or}
use borrow.Author.Tests.{lt-ltb, ltb-true, ltb-false, eq-eqb, eqb-true}
use Rattle.slices.specs.Lists.{tabulate}
use Rattle.slices.proofs.Bisect.{mid, lower_bound_is}
use Rattle.rbitcoin_net.specs.declared.fee_history.HistoricalFeeBlock.{HistoricalFeeBlock}
use Rattle.rbitcoin_net.specs.declared.fee_history.FeeHistory.{FeeHistory}
use Rattle.rbitcoin_net.specs.Map.{Ascends, get, is_some, contains_key}
use Rattle.rbitcoin_net.specs.Lent.{Rows, row_at, block_at, held_rows, rows_refusal_of}
use Rattle.slices.specs.Search.{bisect, lower_bound}
use Rattle.rbitcoin_net.specs.Search.{place_of, is_at, is_held, Looked, block, nothing, refused, looked_of, looked_after, look_up_in, get_in, Gets}
use Rattle.rbitcoin_net.proofs.Tables.{either, not-both, Parts, Rising, ascends-at, ascends_rising, get_none, get-found}

-- a list's element at a place
abbrev pub at : List ℕ → ℕ → ℕ
at hs i = get_or hs i 0

module _ (hs : List ℕ) (h : ℕ) where
  right_parts : (a b p : ℕ) → Rising (at hs) a b → a < b → get_or hs (mid a b) 0 < h → Parts (at hs) h (mid a b + 1) b p → Parts (at hs) h a b p
  right_parts a b p r more l x = record {
    low = omega (arith, x.low);
    high = x.high;
    before = λ i j m. either i (mid a b + 1) (λ n. omega (arith, r i (mid a b) j (omega arith) (omega arith))) (λ n. x.before i n m);
    behind = x.behind;
  }

  left_parts : (a b p : ℕ) → Rising (at hs) a b → a < b → h ≤ get_or hs (mid a b) 0 → Parts (at hs) h a (mid a b) p → Parts (at hs) h a b p
  left_parts a b p r more l x = record {
    low = x.low;
    high = omega (arith, x.high);
    before = x.before;
    behind = λ i j m. either i (mid a b) (λ n. x.behind i j n) (λ n. omega (arith, r (mid a b) i (omega arith) n m));
  }

  none_parts : (a b : ℕ) → a ≤ b → b ≤ a → Parts (at hs) h a b a
  none_parts a b l n = record { low = omega arith; high = l; before = λ i j m. absurd (omega arith); behind = λ i j m. absurd (omega arith) }

  -- what k turns find from any a to b
  abbrev Finds : ℕ → Type 0
  Finds k = (a b : ℕ) → Rising (at hs) a b → a ≤ b → b - a ≤ k → Parts (at hs) h a b (bisect k hs h a b)

  turn_parts : (k : ℕ) → Finds k → Finds (suc k)
  unfolding bisect
  turn_parts k more a b r l n = go (ltb a b) refl (ltb (get_or hs (mid a b) 0) h) refl
    where
      go : (t : Bool) → ltb a b ≡ t → (u : Bool) → ltb (get_or hs (mid a b) 0) h ≡ u → Parts (at hs) h a b (cond t (cond u (bisect k hs h (mid a b + 1) b) (bisect k hs h a (mid a b))) a)
      go true e true d =
          let o : a < b = ltb-true a b e in
          right_parts a b _ r o (ltb-true _ h d) (more (mid a b + 1) b (λ i j m. r i j (omega arith)) (omega arith) (omega arith))
      go true e false d =
          let o : a < b = ltb-true a b e in
          left_parts a b _ r o (ltb-false _ h d) (more a (mid a b) (λ i j m o q. r i j m o (omega arith)) (omega arith) (omega arith))
      go false e true d = none_parts a b l (ltb-false a b e)
      go false e false d = none_parts a b l (ltb-false a b e)

  -- where heights do not fall, the search finds where they reach h
  pub bisect_parts : (k : ℕ) → Finds k
  unfolding bisect
  bisect_parts zero a b r l n = none_parts a b l (omega arith)
  bisect_parts (suc k) a b r l n = turn_parts k (bisect_parts k) a b r l n

-- the search of the code is the definition's
pub place_is : (hs : List ℕ) (s : FeeHistory) (h p : ℕ) → p ≡ bisect (s.start + s.count - s.start) hs h s.start (s.start + s.count) → p ≡ place_of hs s h
unfolding place_of
place_is hs s h p e = let d : s.start + s.count - s.start ≡ s.count = omega arith in e ∙ ap (λ k. bisect k hs h s.start (s.start + s.count)) d

-- of rows that reach their end
pub place_found : (hs : List ℕ) (s : FeeHistory) (h p : ℕ) → p ≡ lower_bound hs s.start (s.start + s.count) h → s.start + s.count ≤ length hs → p ≡ place_of hs s h
place_found hs s h p e l = place_is hs s h p (e ∙ lower_bound_is hs s.start (s.start + s.count) h l)

module _ (m : Rows) (s : FeeHistory) (h : ℕ) (asc : Ascends (held_rows m s)) where
  -- of ascending rows the place parts the heights
  pub place_parts : Parts (at m.heights) h s.start (s.start + s.count) (place_of m.heights s h)
  unfolding place_of held_rows
  place_parts = bisect_parts m.heights h s.count s.start (s.start + s.count) (ascends_rising (row_at m) s.count s.start asc) (omega arith) (omega arith)

-- the place is of that height exactly where it is before the end and has it
module _ (hs : List ℕ) (end h p : ℕ) where
  pub is-at-true : is_at hs end h p ≡ true → (p < end) × (get_or hs p 0 ≡ h)
  unfolding is_at
  is-at-true e = go (ltb p end) refl (eqb (get_or hs p 0) h) refl e
    where
      go : (b : Bool) → ltb p end ≡ b → (c : Bool) → eqb (get_or hs p 0) h ≡ c → (b && c) ≡ true → (p < end) × (get_or hs p 0 ≡ h)
      go true a true b e = (ltb-true p end a, eqb-true _ h b)
      go true a false b e = absurd (not-both e)
      go false a c b e = absurd (not-both e)

  pub is-at-false : is_at hs end h p ≡ false → p < end → get_or hs p 0 ≡ h → ⊥
  unfolding is_at
  is-at-false e l d =
      let a : ltb p end ≡ true = lt-ltb p end l in
      let b : eqb (get_or hs p 0) h ≡ true = eq-eqb (get_or hs p 0) h d in
      not-both (sym e ∙ (λ i. a i && b i))

-- ---- `get`

module _ (s : FeeHistory) (m : Rows) (h : ℕ) where
  abbrev place : ℕ
  place = place_of m.heights s h

  look-up-means : Ascends (held_rows m s) → look_up_in s m h ≡ looked_of (get h (held_rows m s))
  unfolding look_up_in held_rows
  look-up-means asc = go (is_held m.heights s h) refl
    where
      parts : Parts (at m.heights) h s.start (s.start + s.count) place
      parts = place_parts m s h asc

      go : (b : Bool) → is_held m.heights s h ≡ b → cond b (block (block_at m place)) nothing ≡ looked_of (get h (tabulate (row_at m) s.start s.count))
      go true e =
          let x = is-at-true m.heights (s.start + s.count) h place e in
          ap looked_of (sym (get-found (row_at m) h s.start s.count place parts.low x.0 x.1 (λ i l o d. omega (arith, parts.before i l o))))
      go false e =
          ap looked_of
          (sym
          (get_none (row_at m) h s.count s.start
          (λ i l o d. either i place (λ n. omega (arith, parts.before i l n))
          (λ n. either place i
          (λ j. omega (arith, parts.behind place (omega arith) (omega arith), ascends-at (row_at m) s.count s.start asc place i parts.low j o))
          (λ j. let q : place ≡ i = omega arith in is-at-false m.heights (s.start + s.count) h place e (rw q o) (rw q d))))))

  -- `contains_key`, by the search
  abbrev found_so : Looked → Bool
  found_so (block b) = true
  found_so nothing = false
  found_so (refused k) = false

  pub contains-is : Ascends (held_rows m s) → contains_key h (held_rows m s) ≡ is_held m.heights s h
  unfolding look_up_in
  contains-is asc = sym (maybe (get h (held_rows m s))) ∙ sym (ap found_so (look-up-means asc)) ∙ by (is_held m.heights s h)
    where
      maybe : (o : Option HistoricalFeeBlock) → found_so (looked_of o) ≡ is_some o
      maybe none = refl
      maybe (some v) = refl

      by : (c : Bool) → found_so (cond c (block (block_at m place)) nothing) ≡ c
      by true = refl
      by false = refl

  module _ (p : ℕ) (e : p ≡ place) where
    pub look-up-held : (b : _) → is_at m.heights (s.start + s.count) h p ≡ true → b ≡ block_at m p → block b ≡ look_up_in s m h
    unfolding look_up_in
    look-up-held b t d =
        let u : is_held m.heights s h ≡ true = ap (is_at m.heights (s.start + s.count) h) (sym e) ∙ t in
        rw u (ap block (d ∙ ap (block_at m) e))

    pub look-up-nothing : is_at m.heights (s.start + s.count) h p ≡ false → nothing ≡ look_up_in s m h
    unfolding look_up_in
    look-up-nothing t =
        let u : is_held m.heights s h ≡ false = ap (is_at m.heights (s.start + s.count) h) (sym e) ∙ t in
        rw u

  -- by its equation alone, `get` means the Rust's
  gets : (r : Looked) → r ≡ get_in s m h → Gets s m h r
  gets r e = record { is = e; means = λ asc. e ∙ ap (looked_after (rows_refusal_of s m)) (look-up-means asc) }

  pub get_refused : (k : ℕ) → k ≡ rows_refusal_of s m → (k ≡ 0 → ⊥) → Gets s m h (refused k)
  unfolding looked_after
  get_refused zero e n = absurd (n refl)
  get_refused (suc k) e n = gets (refused (suc k)) (ap (λ j. looked_after j (look_up_in s m h)) e)

  pub get-given : (k : ℕ) (r : Looked) → k ≡ rows_refusal_of s m → k ≡ 0 → r ≡ look_up_in s m h → Gets s m h r
  unfolding looked_after
  get-given k r e z d = gets r (d ∙ ap (λ j. looked_after j (look_up_in s m h)) (sym z ∙ e))
