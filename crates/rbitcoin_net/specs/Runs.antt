-- A run of calls, each on what the one before left, and what is the same before and after. Definitions only.
use Rattle.std.specs.Prelude.{ℕ, ◌^◌, ◌<◌, ◌≡◌, cond, List, [], ◌∷◌, eqb}
use Rattle.std.proofs.Math.Option.{Option}
use Rattle.rbitcoin_mempool.specs.Reached.{SetUpAs as WindowsSetUpAs}
use Rattle.rbitcoin_net.specs.Map.{below, contains_key, insert}
use Rattle.rbitcoin_net.specs.Lent.{Lent, view}
use Rattle.rbitcoin_net.specs.Hashes.{Whole32}
use Rattle.rbitcoin_net.specs.Cuts.{truncate_in, truncate_refusal_of}
use Rattle.rbitcoin_net.specs.Inserts.{Whole, whole, insert_refusal, insert_in, insert_if_absent_refusal, insert_if_absent_in}
use Rattle.rbitcoin_net.specs.Rates.{Rated, rated, lent_to, rates_refusal_of, rates_in}
use Rattle.rbitcoin_net.specs.Sums.{sum_of}
use Rattle.rbitcoin_net.specs.declared.fee_history.HistoricalFeeBlock.{HistoricalFeeBlock}
use Rattle.rbitcoin_net.specs.declared.fee_history.FeeHistory.{FeeHistory}

pub data Call : Type 0 where
  connect : ℕ → HistoricalFeeBlock → Option (List ℕ) → Call
  preload : ℕ → HistoricalFeeBlock → Option (List ℕ) → Call
  cut : ℕ → Call
  -- `rates`, with so many places of scratch, of output numbers and of marks
  ask : ℕ → ℕ → ℕ → Call
  -- `get`, `entries` or `recent_hashes`; or any call to which other memory was lent, too short, so that it was refused
  other : Call

-- the parts that `rates` changes, and all with them
abbrev pub rated_of : Whole → Rated
rated_of x = rated x.state x.memory.hurdles x.memory.befores x.memory.aheads

abbrev pub whole_of : Lent → Rated → Whole
whole_of m x = whole x.state (lent_to m.rows m.hashes x)

-- what a call leaves, refused or not: the equation of its contract
unfoldable pub call_in : Call → Whole → Whole
call_in (connect h b z) x = cond (eqb (insert_refusal h x.state x.memory) 0) (insert_in h b z x) x
call_in (preload h b z) x = cond (eqb (insert_if_absent_refusal h x.state x.memory) 0) (insert_if_absent_in h b z x) x
call_in (cut h) x = cond (eqb (truncate_refusal_of x.state x.memory.rows x.memory.hashes) 0) (whole (truncate_in h x.memory.rows x.memory.hashes x.state) x.memory) x
call_in (ask z n o) x = cond (eqb (rates_refusal_of x.memory.rows (rated_of x) z n o) 0) (whole_of x.memory (rates_in z x.memory.rows (rated_of x))) x
call_in other x = x

unfoldable pub run_in : List Call → Whole → Whole
run_in [] x = x
run_in (c ∷ cs) x = run_in cs (call_in c x)

-- t has the budget of s, its targets and its capacity, which an opening sets
pub record SetUpAs (s t : FeeHistory) : Type 0 where
  pub same_budget : t.budget ≡ s.budget
  pub same_windows : WindowsSetUpAs s.analog t.analog

-- heights are u32, and a hash that is there has 32 bytes
abbrev pub InRange32 : Call → Type 0
InRange32 (connect h b z) = (h < 2 ^ 32) × Whole32 z
InRange32 (preload h b z) = (h < 2 ^ 32) × Whole32 z
InRange32 (cut h) = h < 2 ^ 32
InRange32 (ask z n o) = Unit
InRange32 other = Unit

abbrev pub AllInRange32 : List Call → Type 0
AllInRange32 [] = Unit
AllInRange32 (c ∷ cs) = InRange32 c × AllInRange32 cs

-- the true sum at the moment before a call's eviction; 0 where nothing is put in
unfoldable pub moment : Call → Whole → ℕ
moment (connect h b z) x = cond (eqb (insert_refusal h x.state x.memory) 0) (sum_of (insert h b (below h (view x.state x.memory).blocks))) 0
moment (preload h b z) x =
    cond (eqb (insert_if_absent_refusal h x.state x.memory) 0)
    (cond (contains_key h (view x.state x.memory).blocks) 0 (sum_of (insert h b (view x.state x.memory).blocks))) 0
moment (cut h) x = 0
moment (ask z n o) x = 0
moment other x = 0

-- "the true sum has fitted a u64 at every moment so far, the moment before each eviction included"
abbrev pub SumsFit : List Call → Whole → Type 0
SumsFit [] x = Unit
SumsFit (c ∷ cs) x = (moment c x < 2 ^ 64) × SumsFit cs (call_in c x)
