-- `truncate_above`, for every state and memory. Definitions only.
use Rattle.std.specs.Prelude.{ℕ, zero, suc, ◌+◌, ◌-◌, ◌≡◌, false, cond, not, ◌&&◌, List, eqb, Float, length, get_or}
use Rattle.num.specs.Word.{saturating_sub}
use Rattle.rbitcoin_mempool.specs.declared.fee_analog.history.AnalogHistory.{AnalogHistory}
use Rattle.rbitcoin_mempool.specs.Outcome.{Verdict, verdict_of}
use Rattle.rbitcoin_mempool.specs.Rates.{mark_of}
use Rattle.rbitcoin_mempool.specs.Windows.{or_else, pop_back_of}
use Rattle.rbitcoin_net.specs.History.{next, hurdle_of, truncate_above}
use Rattle.rbitcoin_net.specs.Lent.{Rows, Hashes, lent, view, Sound, state_refusal, rows_refusal, hashes_refusal}
use Rattle.rbitcoin_net.specs.Search.{place_of}
use Rattle.rbitcoin_net.specs.Hashes.{hash_list, hash_place}
use Rattle.rbitcoin_net.specs.declared.fee_history.HistoricalFeeBlock.{HistoricalFeeBlock}
use Rattle.rbitcoin_net.specs.declared.fee_history.FeeHistory.{FeeHistory}

-- fields of a state set: where its rows lie; windows and total; the number of hashes; no kept rates
abbrev pub with_rows : ℕ → ℕ → FeeHistory → FeeHistory
with_rows start count s = record { analog = s.analog; analog_stale = s.analog_stale; start = start; count = count; txstat_bytes = s.txstat_bytes; budget = s.budget; hashes = s.hashes; kept = s.kept; kept_numbers = s.kept_numbers; kept_marks = s.kept_marks }

abbrev pub with_sums : AnalogHistory → ℕ → FeeHistory → FeeHistory
with_sums analog total s = record { analog = analog; analog_stale = s.analog_stale; start = s.start; count = s.count; txstat_bytes = total; budget = s.budget; hashes = s.hashes; kept = s.kept; kept_numbers = s.kept_numbers; kept_marks = s.kept_marks }

abbrev pub with_hashes : ℕ → FeeHistory → FeeHistory
with_hashes n s = record { analog = s.analog; analog_stale = s.analog_stale; start = s.start; count = s.count; txstat_bytes = s.txstat_bytes; budget = s.budget; hashes = n; kept = s.kept; kept_numbers = s.kept_numbers; kept_marks = s.kept_marks }

abbrev pub unkept : FeeHistory → FeeHistory
unkept s = record { analog = s.analog; analog_stale = s.analog_stale; start = s.start; count = s.count; txstat_bytes = s.txstat_bytes; budget = s.budget; hashes = s.hashes; kept = false; kept_numbers = s.kept_numbers; kept_marks = s.kept_marks }

-- a row of a mark and a size is no longer held: its bytes leave the total, and where it has a rate and the windows are not stale, a hurdle goes
unfoldable pub forget_row : (AnalogHistory → AnalogHistory) → ℕ → ℕ → FeeHistory → FeeHistory
forget_row pop mark size s =
    with_sums (cond (eqb mark 1 && not s.analog_stale) (pop s.analog) s.analog) (saturating_sub s.txstat_bytes size) s

-- a block is no longer held: by the mark and the size that it is stored with
abbrev pub forget_block : (AnalogHistory → AnalogHistory) → HistoricalFeeBlock → FeeHistory → FeeHistory
forget_block pop b s = forget_row pop (mark_of (hurdle_of b)) b.txstat_bytes s

-- n rows from place i on, one after the other
unfoldable pub forget_rows : (AnalogHistory → AnalogHistory) → Rows → ℕ → ℕ → FeeHistory → FeeHistory
forget_rows pop m i zero s = s
forget_rows pop m i (suc n) s = forget_rows pop m (suc i) n (forget_row pop (get_or m.marks i 0) (get_or m.sizes i 0) s)

-- the rows from place p on dropped
unfoldable pub cut_at : Rows → ℕ → FeeHistory → FeeHistory
cut_at m p s = with_rows s.start (p - s.start) (forget_rows pop_back_of m p (s.start + s.count - p) s)

-- the rows and the hashes from height k on dropped
unfoldable pub drop_from : ℕ → Rows → Hashes → FeeHistory → FeeHistory
drop_from k m z s = with_hashes (hash_place k (hash_list s.hashes z)) (unkept (cut_at m (place_of m.heights s k) s))

-- `truncate_above`: from the next height on
abbrev pub truncate_in : ℕ → Rows → Hashes → FeeHistory → FeeHistory
truncate_in h m z s = drop_from (next h) m z s

-- refusals: the state's, the rows', the hashes'
unfoldable pub truncate_refusal : FeeHistory → ℕ → ℕ → ℕ → ℕ → ℕ → ℕ → ℕ
truncate_refusal s h m r z zh zb = or_else (or_else (state_refusal s) (rows_refusal s.analog.capacity h m r z)) (hashes_refusal zh zb)

abbrev pub truncate_refusal_of : FeeHistory → Rows → Hashes → ℕ
truncate_refusal_of s m z = truncate_refusal s (length m.heights) (length m.marks) (length m.rates) (length m.sizes) (length z.heights) (length z.bytes)

-- the contract: the equations for every state and memory; and over any hurdles and pairs, of a sound state the Rust's `truncate_above`, and a sound state again
pub record Truncates (h : ℕ) (m : Rows) (z : Hashes) (s : FeeHistory) (v : Verdict) (t : FeeHistory) : Type 0 where
  pub outcome : v ≡ verdict_of (truncate_refusal_of s m z)
  pub is : t ≡ cond (eqb (truncate_refusal_of s m z) 0) (truncate_in h m z s) s
  pub means : (us : List ℕ) (bs : List Float) (ds : List ℕ) → Sound s (lent m z us bs ds) → view t (lent m z us bs ds) ≡ truncate_above h (view s (lent m z us bs ds))
  pub sound : (us : List ℕ) (bs : List Float) (ds : List ℕ) → Sound s (lent m z us bs ds) → Sound t (lent m z us bs ds)
