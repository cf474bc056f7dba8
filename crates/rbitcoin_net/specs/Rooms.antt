-- A row put in among the held rows: what it does to every place of one of their lists, and where the rows start then. Definitions only.
use Rattle.std.specs.Prelude.{ℕ, ◌+◌, ◌-◌, ◌/◌, ◌≤◌, ◌<◌, cond, List, leb, ltb, eqb, set}
use Rattle.num.specs.Word.{saturating_add}
use Rattle.slices.specs.Lists.{moved}
use Rattle.rbitcoin_mempool.specs.Rates.{mark_of, number_of}
use Rattle.rbitcoin_net.specs.History.{hurdle_of}
use Rattle.rbitcoin_net.specs.Lent.{Rows, rows}
use Rattle.rbitcoin_net.specs.Cuts.{with_rows, with_sums}
use Rattle.rbitcoin_net.specs.declared.fee_history.HistoricalFeeBlock.{HistoricalFeeBlock}
use Rattle.rbitcoin_net.specs.declared.fee_history.FeeHistory.{FeeHistory}

-- of q + r elements from place `from` on, the first q moved to `to`, the others to one place behind them, in the order in which none is overwritten, and v put between
unfoldable pub row_put : {A : Type 0} → ℕ → ℕ → ℕ → ℕ → A → List A → List A
row_put from to q r v xs =
    set (cond (leb to from) (moved (moved xs to from q) (to + q + 1) (from + q) r) (moved (moved xs (to + q + 1) (from + q) r) to from q)) (to + q) v

-- the places that hold no row
abbrev pub free_of : FeeHistory → ℕ
free_of s = s.analog.capacity - s.count

-- where the rows start with one more at rank q: the end with fewer rows moves by one, the back one where both have as many; where that end has no room, all move, so that three quarters of what is free (rounded up) lie there, one place of which the new row takes
unfoldable pub start_with : FeeHistory → ℕ → ℕ
start_with s q =
    cond (ltb q (s.count - q))
    (cond (eqb s.start 0) (free_of s - free_of s / 4 - 1) (s.start - 1))
    (cond (eqb (s.start + s.count) s.analog.capacity) (free_of s / 4) s.start)

-- a state with the lists of its rows
pub record Stored : Type 0 where
  pub state : FeeHistory
  pub rows : Rows

abbrev pub stored : FeeHistory → Rows → Stored
stored s m = record { state = s; rows = m }

-- in each list a value put in at rank q of the held rows
abbrev pub row_put_at : ℕ → FeeHistory → ℕ → List ℕ → List ℕ
row_put_at q s v xs = row_put s.start (start_with s q) q (s.count - q) v xs

-- `blocks.insert`, at rank q, and the total
unfoldable pub hold_at : ℕ → ℕ → HistoricalFeeBlock → Stored → Stored
hold_at q h b x =
    let s = x.state in
    let m = x.rows in
    stored (with_rows (start_with s q) (s.count + 1) (with_sums s.analog (saturating_add s.txstat_bytes b.txstat_bytes) s))
    (rows (row_put_at q s h m.heights) (row_put_at q s (mark_of (hurdle_of b)) m.marks) (row_put_at q s (number_of (hurdle_of b)) m.rates) (row_put_at q s b.txstat_bytes m.sizes))

-- there is room for one row more, at rank q, in lists that reach the capacity
pub record Roomy (q : ℕ) (s : FeeHistory) (h m r z : ℕ) : Type 0 where
  pub within : s.start + s.count ≤ s.analog.capacity
  pub room : s.count < s.analog.capacity
  pub small : s.analog.capacity ≤ 65536
  pub rank : q ≤ s.count
  pub heights : s.analog.capacity ≤ h
  pub marks : s.analog.capacity ≤ m
  pub rates : s.analog.capacity ≤ r
  pub sizes : s.analog.capacity ≤ z
