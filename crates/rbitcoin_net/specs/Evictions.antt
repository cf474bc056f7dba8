-- `evict`, for every state and memory. Definitions only.
use Rattle.std.specs.Prelude.{ℕ, zero, suc, ◌+◌, ◌-◌, cond, ltb, get_or}
use Rattle.rbitcoin_mempool.specs.Rates.{mark_of}
use Rattle.rbitcoin_mempool.specs.Windows.{pop_front_of}
use Rattle.rbitcoin_net.specs.History.{hurdle_of}
use Rattle.rbitcoin_net.specs.Lent.{Rows, Hashes}
use Rattle.rbitcoin_net.specs.Hashes.{hash_list, remove_hash}
use Rattle.rbitcoin_net.specs.Cuts.{with_rows, with_sums, with_hashes, unkept, forget_row}
use Rattle.rbitcoin_net.specs.declared.fee_history.HistoricalFeeBlock.{HistoricalFeeBlock}
use Rattle.rbitcoin_net.specs.declared.fee_history.FeeHistory.{FeeHistory}

-- a state with the lists of its hashes
pub record Hashed : Type 0 where
  pub state : FeeHistory
  pub hashes : Hashes

abbrev pub hashed : FeeHistory → Hashes → Hashed
hashed s z = record { state = s; hashes = z }

-- the oldest row, of a height, a mark and a size, is no longer held, nor is its hash
unfoldable pub evict_row : ℕ → ℕ → ℕ → Hashed → Hashed
evict_row height mark size x =
    let s = x.state in
    let k = remove_hash height (hash_list s.hashes x.hashes) in
    hashed (with_hashes k.count (with_rows (s.start + 1) (s.count - 1) (forget_row pop_front_of mark size s))) k.lists

-- the same of a block, by the mark and the size that it is stored with
abbrev pub evict_block : ℕ → HistoricalFeeBlock → Hashed → Hashed
evict_block height b x = evict_row height (mark_of (hurdle_of b)) b.txstat_bytes x

abbrev pub evict_oldest : Rows → Hashed → Hashed
evict_oldest m x = evict_row (get_or m.heights x.state.start 0) (get_or m.marks x.state.start 0) (get_or m.sizes x.state.start 0) x

-- the oldest of n rows goes while the total is above the budget; with none left and the total still above it, the total becomes 0
unfoldable pub evict_rows : Rows → ℕ → Hashed → Hashed
evict_rows m zero x = cond (ltb x.state.budget x.state.txstat_bytes) (hashed (with_sums x.state.analog 0 x.state) x.hashes) x
evict_rows m (suc n) x = cond (ltb x.state.budget x.state.txstat_bytes) (evict_rows m n (evict_oldest m x)) x

unfoldable pub evict_in : Rows → Hashed → Hashed
evict_in m x = evict_rows m x.state.count (hashed (unkept x.state) x.hashes)
