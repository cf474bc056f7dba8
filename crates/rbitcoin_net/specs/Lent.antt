-- The lent memory, what a state with it stands for, and who is refused. Definitions only.
use Rattle.std.specs.Prelude.{ℕ, ◌+◌, ◌*◌, ◌≡◌, ◌≤◌, false, cond, List, ltb, eqb, Float, length, get_or}
use Rattle.std.proofs.Math.Option.{Option, none, some}
use Rattle.slices.specs.Lists.{tabulate}
use Rattle.std.specs.Prelude.{Some, None}
use Rattle.std.specs.declared.option.Option as rust
use Rattle.rbitcoin_mempool.specs.Rates.{rate_at}
use Rattle.rbitcoin_mempool.specs.Windows.{Windows, windows, held_in, target_at, or_else, WellStored}
use Rattle.rbitcoin_mempool.specs.Windows.{state_refusal as windows_refusal, size_refusal as windows_size_refusal}
use Rattle.rbitcoin_net.specs.Map.{Entry, entry, Ascends}
use Rattle.rbitcoin_net.specs.History.{History, hurdles_of}
use Rattle.rbitcoin_net.specs.declared.fee_history.HistoricalFeeBlock.{HistoricalFeeBlock}
use Rattle.rbitcoin_net.specs.declared.fee_history.FeeHistory.{FeeHistory}

-- the held rows' four lists; the hashes' two
pub record Rows : Type 0 where
  pub heights : List ℕ
  pub marks : List ℕ
  pub rates : List ℕ
  pub sizes : List ℕ

abbrev pub rows : List ℕ → List ℕ → List ℕ → List ℕ → Rows
rows h m r z = record { heights = h; marks = m; rates = r; sizes = z }

pub record Hashes : Type 0 where
  pub heights : List ℕ
  pub bytes : List ℕ

abbrev pub hashes : List ℕ → List ℕ → Hashes
hashes h b = record { heights = h; bytes = b }

-- all that is lent, with the windows' three
pub record Lent : Type 0 where
  pub rows : Rows
  pub hashes : Hashes
  pub hurdles : List ℕ
  pub befores : List Float
  pub aheads : List ℕ

abbrev pub lent : Rows → Hashes → List ℕ → List Float → List ℕ → Lent
lent m z us bs ds = record { rows = m; hashes = z; hurdles = us; befores = bs; aheads = ds }

-- the row at a place: a stored mark other than 1 is a missing rate, whose number is not read
abbrev pub rate_of : ℕ → ℕ → rust.Option ℕ
rate_of mark number = cond (eqb mark 1) (Some number) None

abbrev pub block_at : Rows → ℕ → HistoricalFeeBlock
block_at m i = record { p10_sat_kvb = rate_of (get_or m.marks i 0) (get_or m.rates i 0); txstat_bytes = get_or m.sizes i 0 }

abbrev pub row_at : Rows → ℕ → Entry HistoricalFeeBlock
row_at m i = entry (get_or m.heights i 0) (block_at m i)

-- the held rows, oldest first
unfoldable pub held_rows : Rows → FeeHistory → List (Entry HistoricalFeeBlock)
held_rows m s = tabulate (row_at m) s.start s.count

-- each of the rows' lists reaches the end of the held rows
pub record Reach (s : FeeHistory) (m : Rows) : Type 0 where
  pub heights : s.start + s.count ≤ length m.heights
  pub marks : s.start + s.count ≤ length m.marks
  pub rates : s.start + s.count ≤ length m.rates
  pub sizes : s.start + s.count ≤ length m.sizes

-- the hash at a place: 32 bytes
abbrev pub hash_at : Hashes → ℕ → Entry (List ℕ)
hash_at z i = entry (get_or z.heights i 0) (tabulate (λ j. get_or z.bytes j 0) (32 * i) 32)

-- n hashes, from the first place on
unfoldable pub hashes_in : ℕ → Hashes → List (Entry (List ℕ))
hashes_in n z = tabulate (hash_at z) 0 n

abbrev pub held_hashes : Hashes → FeeHistory → List (Entry (List ℕ))
held_hashes z s = hashes_in s.hashes z

-- the kept rates in tracked order, if there are any
unfoldable pub kept_rates : FeeHistory → Option (List (Option ℕ))
kept_rates s = cond s.kept (some (tabulate (rate_at s.kept_numbers s.kept_marks) 0 s.analog.tracked)) none

abbrev pub windows_of : FeeHistory → Lent → Windows
windows_of s m = windows s.analog m.hurdles m.befores m.aheads

-- the Rust's history that a state with its memory stands for
unfoldable pub view : FeeHistory → Lent → History
view s m = record {
  blocks = held_rows m.rows s;
  total = s.txstat_bytes;
  budget = s.budget;
  targets = tabulate (target_at s.analog) 0 s.analog.tracked;
  hashes = held_hashes m.hashes s;
  hurdles = held_in (windows_of s m);
  stale = s.analog_stale;
  rates = kept_rates s;
}

-- what a call is refused with, 0 for nothing. Of a state that no call returns: 3 for more than 16 targets; 5 for a capacity above 65,536, for hurdles or rows whose start and count together are above the capacity, and for more than 144 hashes
unfoldable pub state_refusal : FeeHistory → ℕ
state_refusal s = or_else (windows_refusal s.analog) (cond (ltb s.analog.capacity (s.start + s.count)) 5 (cond (ltb 144 s.hashes) 5 0))

-- "5: a history or scratch slice shorter than the capacity asked for"; the hashes' are 144 heights and 4,608 bytes
unfoldable pub rows_refusal : ℕ → ℕ → ℕ → ℕ → ℕ → ℕ
rows_refusal c h m r z = cond (ltb h c) 5 (cond (ltb m c) 5 (cond (ltb r c) 5 (cond (ltb z c) 5 0)))

abbrev pub hashes_refusal : ℕ → ℕ → ℕ
hashes_refusal h b = cond (ltb h 144) 5 (cond (ltb b 4608) 5 0)

-- of a call that lends the rows alone, after the state's
abbrev pub rows_refusal_of : FeeHistory → Rows → ℕ
rows_refusal_of s m = or_else (state_refusal s) (rows_refusal s.analog.capacity (length m.heights) (length m.marks) (length m.rates) (length m.sizes))

-- of a call that lends all
unfoldable pub lent_refusal : FeeHistory → Lent → ℕ
lent_refusal s m =
    or_else (rows_refusal_of s m.rows)
    (or_else (hashes_refusal (length m.hashes.heights) (length m.hashes.bytes))
    (windows_size_refusal s.analog (length m.hurdles) (length m.befores) (length m.aheads)))

-- what an accepted opening leaves and each call keeps: the memory serves, heights and kept hashes ascend, the stored pairs are those of the hurdles, and unless stale the hurdles are the held rates in height order
pub record Sound (s : FeeHistory) (m : Lent) : Type 0 where
  pub lent : lent_refusal s m ≡ 0
  pub ascends : Ascends (held_rows m.rows s)
  pub hashes_ascend : Ascends (held_hashes m.hashes s)
  pub stored : WellStored (windows_of s m)
  pub hurdles : s.analog_stale ≡ false → held_in (windows_of s m) ≡ hurdles_of (held_rows m.rows s)
