-- `new`. Definitions only.
use Rattle.std.specs.Prelude.{Ok, Err, ℕ, ◌≡◌, false, cond, List, eqb, length, replicate}
use Rattle.rbitcoin_mempool.specs.declared.fee_analog.history.AnalogHistory.{AnalogHistory}
use Rattle.rbitcoin_mempool.specs.Outcome.{Verdict, verdict_of}
use Rattle.rbitcoin_mempool.specs.Windows.{or_else}
use Rattle.rbitcoin_mempool.specs.Windows.{fresh as fresh_windows, unopened as unopened_windows, open_refusal as windows_open_refusal}
use Rattle.std.specs.declared.result.Result.{Result}
use Rattle.rbitcoin_mempool.specs.declared.answer.Refusal.{Refusal}
use Rattle.rbitcoin_net.specs.History.{new}
use Rattle.rbitcoin_net.specs.Lent.{Lent, rows_refusal, hashes_refusal, view, Sound}
use Rattle.rbitcoin_net.specs.declared.fee_history.FeeHistory.{FeeHistory}

-- a state with nothing held, over windows
unfoldable pub fresh_of : ℕ → AnalogHistory → FeeHistory
fresh_of budget a = record { analog = a; analog_stale = false; start = 0; count = 0; txstat_bytes = 0; budget = budget; hashes = 0; kept = false; kept_numbers = replicate 16 0; kept_marks = replicate 16 0 }

-- the state that an opening answers, and the fixed empty state of a refused one
abbrev pub opened_or_empty : Result FeeHistory Refusal → FeeHistory
opened_or_empty (Ok s) = s
opened_or_empty (Err _) = fresh_of 0 unopened_windows

-- 5 for rows or hashes that are too short, over a capacity
unfoldable pub memory_refusal : ℕ → ℕ → ℕ → ℕ → ℕ → ℕ → ℕ → ℕ
memory_refusal c h m r z zh zb = or_else (rows_refusal c h m r z) (hashes_refusal zh zb)

-- the windows' refusals, 3 before 5, then the memory's
unfoldable pub open_refusal : List ℕ → ℕ → Lent → ℕ
open_refusal targets c m =
    or_else (windows_open_refusal targets c (length m.hurdles) (length m.befores) (length m.aheads))
    (memory_refusal c (length m.rows.heights) (length m.rows.marks) (length m.rows.rates) (length m.rows.sizes) (length m.hashes.heights) (length m.hashes.bytes))

-- the contract: a refused opening leaves the fixed empty state; an accepted one the Rust's new history, soundly
pub record Opens (budget : ℕ) (targets : List ℕ) (c : ℕ) (m : Lent) (v : Verdict) (t : FeeHistory) : Type 0 where
  pub outcome : v ≡ verdict_of (open_refusal targets c m)
  pub is : t ≡ cond (eqb (open_refusal targets c m) 0) (fresh_of budget (fresh_windows targets c)) (fresh_of 0 unopened_windows)
  pub means : open_refusal targets c m ≡ 0 → view t m ≡ new budget targets
  pub sound : open_refusal targets c m ≡ 0 → Sound t m
