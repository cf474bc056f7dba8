-- Rows that are no longer held: the code's steps by the definitions. Assumes nothing.
use Prim.Native.Nat.{ℕ, zero, suc, ◌+◌, ◌-◌, ◌≤◌, ◌<◌}
use mathlib.Core.Path.{◌≡◌, refl, ◌∙◌, ap}
use mathlib.Core.Bool.{Bool, true, false, cond, not, ◌&&◌}
use native.Mathlib.Numerals.{add-one}
use native.Mathlib.Omega.{arith}
use lib.Dec.{eqb}
use lib.ListN.{get_or}
use Rattle.num.specs.Word.{saturating_sub}
use Rattle.std.specs.Prelude.{Some, None}
use Rattle.rbitcoin_mempool.specs.declared.fee_analog.history.AnalogHistory.{AnalogHistory}
use Rattle.rbitcoin_mempool.specs.Rates.{given, mark_of}
use Rattle.rbitcoin_mempool.specs.Windows.{pop_back_of}
use Rattle.rbitcoin_net.specs.Lent.{Rows, block_at}
use Rattle.rbitcoin_net.specs.Cuts.{with_rows, with_sums, forget_row, forget_block, forget_rows, cut_at}
use Rattle.rbitcoin_net.specs.declared.fee_history.HistoricalFeeBlock.{HistoricalFeeBlock}
use Rattle.rbitcoin_net.specs.declared.fee_history.FeeHistory.{FeeHistory}

-- a rate that was read from a mark has mark 1 where that mark is 1
marked-again : (b : Bool) (n : ℕ) → eqb (mark_of (given (cond b (Some n) None))) 1 ≡ b
marked-again true n = refl
marked-again false n = refl

-- the block at a place is forgotten as its row is
pub block_row : (pop : AnalogHistory → AnalogHistory) (m : Rows) (i : ℕ) (s : FeeHistory) → forget_block pop (block_at m i) s ≡ forget_row pop (get_or m.marks i 0) (get_or m.sizes i 0) s
unfolding forget_row
block_row pop m i s =
    ap (λ (b : Bool). with_sums (cond (b && not s.analog_stale) (pop s.analog) s.analog) (saturating_sub s.txstat_bytes (get_or m.sizes i 0)) s) (marked-again (eqb (get_or m.marks i 0) 1) (get_or m.rates i 0))

pub forgotten-at : (pop : AnalogHistory → AnalogHistory) (m : Rows) (i : ℕ) (old : HistoricalFeeBlock) (s t : FeeHistory) → old ≡ block_at m i → t ≡ forget_block pop old s → t ≡ forget_row pop (get_or m.marks i 0) (get_or m.sizes i 0) s
forgotten-at pop m i old s t o e = e ∙ ap (λ (b : HistoricalFeeBlock). forget_block pop b s) o ∙ block_row pop m i s

-- one row more is forgotten, and none is left
module _ (pop : AnalogHistory → AnalogHistory) (m : Rows) (end : ℕ) (x : FeeHistory) where
  pub rows_turn : (i : ℕ) (t u : FeeHistory) → i < end → u ≡ forget_row pop (get_or m.marks i 0) (get_or m.sizes i 0) t → forget_rows pop m i (end - i) t ≡ x → forget_rows pop m (i + 1) (end - (i + 1)) u ≡ x
  unfolding forget_rows
  rows_turn i t u l e h =
      let d : end - i ≡ suc (end - (i + 1)) = omega arith in
      let g : forget_rows pop m i (suc (end - (i + 1))) t ≡ x = rw d at h in
      ap (λ j. forget_rows pop m j (end - (i + 1)) u) (add-one i) ∙ ap (forget_rows pop m (suc i) (end - (i + 1))) e ∙ g

  pub rows_none : (i : ℕ) (t : FeeHistory) → end ≤ i → forget_rows pop m i (end - i) t ≡ x → t ≡ x
  unfolding forget_rows
  rows_none i t l h =
      let d : end - i ≡ 0 = omega arith in
      rw d at h

-- what a forgotten row leaves as it was
module _ (pop : AnalogHistory → AnalogHistory) (m : Rows) where
  pub start-stays : (n i : ℕ) (s : FeeHistory) → (forget_rows pop m i n s).start ≡ s.start
  unfolding forget_rows forget_row
  start-stays zero i s = refl
  start-stays (suc n) i s = start-stays n (suc i) (forget_row pop (get_or m.marks i 0) (get_or m.sizes i 0) s)

pub cut-done : (m : Rows) (p : ℕ) (s t : FeeHistory) → t ≡ forget_rows pop_back_of m p (s.start + s.count - p) s → with_rows t.start (p - t.start) t ≡ cut_at m p s
unfolding cut_at
cut-done m p s t e =
    let d : t.start ≡ s.start = ap (λ (u : FeeHistory). u.start) e ∙ start-stays pop_back_of m (s.start + s.count - p) p s in
    rw d (ap (with_rows s.start (p - s.start)) e)
