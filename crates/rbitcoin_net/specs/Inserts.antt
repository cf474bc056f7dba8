-- `insert` and `insert_if_absent`, for every state and memory. Definitions only.
use Rattle.std.specs.Prelude.{ℕ, ◌+◌, ◌-◌, ◌≤◌, ◌≡◌, Bool, true, false, cond, List, eqb, length}
use Rattle.std.proofs.Math.Option.{Option, none, some}
use Rattle.rbitcoin_mempool.specs.declared.fee_analog.history.AnalogHistory.{AnalogHistory}
use Rattle.rbitcoin_mempool.specs.Outcome.{Verdict, verdict_of}
use Rattle.rbitcoin_mempool.specs.Windows.{Windows, or_else, push_back_of, push_front_of}
use Rattle.rbitcoin_net.specs.Map.{is_some, below, contains_key}
use Rattle.rbitcoin_net.specs.History.{hurdle_of, insert_of, insert_if_absent_of}
use Rattle.rbitcoin_net.specs.Lent.{Rows, Hashes, Lent, lent, windows_of, view, Sound, lent_refusal}
use Rattle.rbitcoin_net.specs.Search.{place_of, is_held}
use Rattle.rbitcoin_net.specs.Hashes.{hash_list, note_hash_in}
use Rattle.rbitcoin_net.specs.Cuts.{with_hashes, unkept, drop_from}
use Rattle.rbitcoin_net.specs.Rooms.{stored, hold_at}
use Rattle.rbitcoin_net.specs.Evictions.{hashed, evict_in}
use Rattle.rbitcoin_net.specs.declared.fee_history.HistoricalFeeBlock.{HistoricalFeeBlock}
use Rattle.rbitcoin_net.specs.declared.fee_history.FeeHistory.{FeeHistory}

-- "4: a connect when the held heights below it already fill the capacity", after 5
unfoldable pub insert_refusal : ℕ → FeeHistory → Lent → ℕ
insert_refusal h s m = or_else (lent_refusal s m) (cond (eqb (place_of m.rows.heights s h - s.start) s.analog.capacity) 4 0)

-- "or a preload of an absent height into a full store"
unfoldable pub insert_if_absent_refusal : ℕ → FeeHistory → Lent → ℕ
insert_if_absent_refusal h s m = or_else (lent_refusal s m) (cond (is_held m.rows.heights s h) 0 (cond (eqb s.count s.analog.capacity) 4 0))

-- the place of a height, of rows whose memory serves
pub record Placed (s : FeeHistory) (m : Lent) (h p : ℕ) : Type 0 where
  pub lent : lent_refusal s m ≡ 0
  pub place : p ≡ place_of m.rows.heights s h
  pub low : s.start ≤ p
  pub high : p ≤ s.start + s.count

-- a state with all that is lent to it; with its rows and hashes alone
pub record Whole : Type 0 where
  pub state : FeeHistory
  pub memory : Lent

abbrev pub whole : FeeHistory → Lent → Whole
whole s m = record { state = s; memory = m }

pub record Filed : Type 0 where
  pub state : FeeHistory
  pub rows : Rows
  pub hashes : Hashes

abbrev pub filed : FeeHistory → Rows → Hashes → Filed
filed s m z = record { state = s; rows = m; hashes = z }

-- the windows and the stale mark set
abbrev pub with_windows : AnalogHistory → Bool → FeeHistory → FeeHistory
with_windows a stale s = record { analog = a; analog_stale = stale; start = s.start; count = s.count; txstat_bytes = s.txstat_bytes; budget = s.budget; hashes = s.hashes; kept = s.kept; kept_numbers = s.kept_numbers; kept_marks = s.kept_marks }

-- a rate that is there pushed, unless stale
unfoldable pub push_rate : (ℕ → Windows → Windows) → Option ℕ → Bool → Windows → Windows
push_rate push none stale w = w
push_rate push (some r) true w = w
push_rate push (some r) false w = push r w

-- a row put in at rank q, its hash noted, and what is above the budget evicted
unfoldable pub store_in : ℕ → ℕ → HistoricalFeeBlock → Option (List ℕ) → Filed → Filed
store_in q h b hash x =
    let y = hold_at q h b (stored x.state x.rows) in
    let k = note_hash_in h hash (hash_list y.state.hashes x.hashes) in
    let e = evict_in y.rows (hashed (with_hashes k.count y.state) k.lists) in
    filed e.state y.rows e.hashes

-- the same with windows that were changed before
abbrev pub store_with : ℕ → ℕ → HistoricalFeeBlock → Option (List ℕ) → Windows → Bool → FeeHistory → Rows → Hashes → Whole
store_with q h b hash w stale s m z =
    let y = store_in q h b hash (filed (with_windows w.state stale s) m z) in
    whole y.state (lent y.rows y.hashes w.hurdles w.befores w.aheads)

-- `insert`: what stands from the height on goes, and the new row is the newest
unfoldable pub insert_in : ℕ → HistoricalFeeBlock → Option (List ℕ) → Whole → Whole
insert_in h b hash x =
    let m = x.memory in
    let s = drop_from h m.rows m.hashes x.state in
    store_with s.count h b hash (push_rate push_back_of (hurdle_of b) s.analog_stale (windows_of s m)) s.analog_stale s m.rows m.hashes

-- of a preload at rank q of n: its rate goes behind the hurdles or before them; between held heights it goes nowhere, and the windows are stale
unfoldable pub preload_windows : ℕ → ℕ → Option ℕ → Bool → Windows → Windows
preload_windows q n rate stale w = cond (eqb q n) (push_rate push_back_of rate stale w) (cond (eqb q 0) (push_rate push_front_of rate stale w) w)

unfoldable pub preload_stale : ℕ → ℕ → Option ℕ → Bool → Bool
preload_stale q n rate stale = cond (eqb q n) stale (cond (eqb q 0) stale (cond (is_some rate) true stale))

-- `insert_if_absent`
unfoldable pub insert_if_absent_in : ℕ → HistoricalFeeBlock → Option (List ℕ) → Whole → Whole
insert_if_absent_in h b hash x =
    let m = x.memory in
    let s = x.state in
    let q = place_of m.rows.heights s h - s.start in
    cond (is_held m.rows.heights s h) x
    (store_with q h b hash (preload_windows q s.count (hurdle_of b) s.analog_stale (windows_of s m)) (preload_stale q s.count (hurdle_of b) s.analog_stale) (unkept s) m.rows m.hashes)

-- the contracts: the equations for every state and memory; of a sound state who is refused, by the held heights, and where it is not refused the Rust's function; and a sound state again
pub record Inserts (h : ℕ) (b : HistoricalFeeBlock) (hash : Option (List ℕ)) (x : Whole) (v : Verdict) (y : Whole) : Type 0 where
  pub outcome : v ≡ verdict_of (insert_refusal h x.state x.memory)
  pub is : y ≡ cond (eqb (insert_refusal h x.state x.memory) 0) (insert_in h b hash x) x
  pub full : Sound x.state x.memory → insert_refusal h x.state x.memory ≡ cond (eqb (length (below h (view x.state x.memory).blocks)) x.state.analog.capacity) 4 0
  pub means : Sound x.state x.memory → insert_refusal h x.state x.memory ≡ 0 → view y.state y.memory ≡ insert_of h b hash (view x.state x.memory)
  pub sound : Sound x.state x.memory → Sound y.state y.memory

pub record InsertsIfAbsent (h : ℕ) (b : HistoricalFeeBlock) (hash : Option (List ℕ)) (x : Whole) (v : Verdict) (y : Whole) : Type 0 where
  pub outcome : v ≡ verdict_of (insert_if_absent_refusal h x.state x.memory)
  pub is : y ≡ cond (eqb (insert_if_absent_refusal h x.state x.memory) 0) (insert_if_absent_in h b hash x) x
  pub full : Sound x.state x.memory → insert_if_absent_refusal h x.state x.memory ≡ cond (contains_key h (view x.state x.memory).blocks) 0 (cond (eqb (length (view x.state x.memory).blocks) x.state.analog.capacity) 4 0)
  pub means : Sound x.state x.memory → insert_if_absent_refusal h x.state x.memory ≡ 0 → view y.state y.memory ≡ insert_if_absent_of h b hash (view x.state x.memory)
  pub sound : Sound x.state x.memory → Sound y.state y.memory
