-- The place of a height among the held rows, and `get`, for every state and memory. Definitions only.
use Rattle.std.specs.Prelude.{ℕ, zero, suc, ◌+◌, ◌≡◌, Bool, cond, ◌&&◌, List, ltb, eqb, get_or}
use Rattle.std.proofs.Math.Option.{Option, none, some}
use Rattle.slices.specs.Search.{bisect}
use Rattle.rbitcoin_net.specs.Map.{Ascends, get}
use Rattle.rbitcoin_net.specs.Lent.{Rows, block_at, held_rows, rows_refusal_of}
use Rattle.rbitcoin_net.specs.declared.fee_history.HistoricalFeeBlock.{HistoricalFeeBlock}
use Rattle.rbitcoin_net.specs.declared.fee_history.FeeHistory.{FeeHistory}
use Rattle.std.specs.Prelude.{Some, None, Ok, Err}
use Rattle.std.specs.declared.option.Option as rust
use Rattle.std.specs.declared.result.Result.{Result}
use Rattle.rbitcoin_mempool.specs.declared.answer.Refusal.{Refusal}
use Rattle.rbitcoin_mempool.specs.Refusal.{number}

-- the place of a height
unfoldable pub place_of : List ℕ → FeeHistory → ℕ → ℕ
place_of hs s h = bisect s.count hs h s.start (s.start + s.count)

-- the place p is before the end, and of height h
unfoldable pub is_at : List ℕ → ℕ → ℕ → ℕ → Bool
is_at hs end h p = ltb p end && eqb (get_or hs p 0) h

abbrev pub is_held : List ℕ → FeeHistory → ℕ → Bool
is_held hs s h = is_at hs (s.start + s.count) h (place_of hs s h)

-- what a question for a block is answered with: the block, none, or a refusal with its number
pub data Looked : Type 0 where
  block : HistoricalFeeBlock → Looked
  nothing : Looked
  refused : ℕ → Looked

abbrev pub looked_up : rust.Option HistoricalFeeBlock → Looked
looked_up (Some b) = block b
looked_up None = nothing

abbrev pub looked : Result (rust.Option HistoricalFeeBlock) Refusal → Looked
looked (Ok b) = looked_up b
looked (Err k) = refused (number k)

abbrev pub looked_of : Option HistoricalFeeBlock → Looked
looked_of (some b) = block b
looked_of none = nothing

-- a refusal by its number, 0 for none, before an answer
unfoldable pub looked_after : ℕ → Looked → Looked
looked_after zero a = a
looked_after (suc k) a = refused (suc k)

-- `get`
unfoldable pub look_up_in : FeeHistory → Rows → ℕ → Looked
look_up_in s m h = cond (is_held m.heights s h) (block (block_at m (place_of m.heights s h))) nothing

abbrev pub get_in : FeeHistory → Rows → ℕ → Looked
get_in s m h = looked_after (rows_refusal_of s m) (look_up_in s m h)

-- the contract: the equation for every memory, and for ascending heights the Rust's `get`
pub record Gets (s : FeeHistory) (m : Rows) (h : ℕ) (r : Looked) : Type 0 where
  pub is : r ≡ get_in s m h
  pub means : Ascends (held_rows m s) → r ≡ looked_after (rows_refusal_of s m) (looked_of (get h (held_rows m s)))
