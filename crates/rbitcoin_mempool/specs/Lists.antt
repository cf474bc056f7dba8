-- Lists of rates that are lent together, as the definitions see them. Definitions only.
use Rattle.std.specs.Prelude.{◌≡◌, ℕ, List, length}
use Rattle.std.proofs.Math.Option.{Option}
use Rattle.rbitcoin_mempool.specs.declared.fee_est.marked.Marked.{Marked}
use Rattle.rbitcoin_mempool.specs.declared.fee_est.marked.MarkedMut.{MarkedMut}
use Rattle.rbitcoin_mempool.specs.declared.fee_est.publish.DepthLists.{DepthLists}
use Rattle.rbitcoin_mempool.specs.Rates.{given, rates_of}
use Rattle.rbitcoin_mempool.specs.Hold.{Args, args_of}

-- the lists are still those that the caller lent
abbrev pub SameLists : MarkedMut → MarkedMut → Type 0
SameLists m n = (m.numbers.ghost_name ≡ n.numbers.ghost_name) × (m.marks.ghost_name ≡ n.marks.ghost_name)

-- the rates of numbers with marks
abbrev pub rates_in : Marked → List (Option ℕ)
rates_in m = rates_of m.numbers.now m.marks.now

-- what the loop over depths reads
abbrev pub args_in : DepthLists → Args
args_in l = args_of l.depths.now l.projected.numbers.now l.projected.marks.now l.frontier.numbers.now l.frontier.marks.now l.history.numbers.now l.history.marks.now (given l.confirm) l.alpha

-- as many numbers as marks, n of each
pub record Paired (m : Marked) (n : ℕ) : Type 0 where
  pub numbers : length m.numbers.now ≡ n
  pub marks : length m.marks.now ≡ n

-- each list of rates has a number and a mark for each depth
pub record Aligned (l : DepthLists) : Type 0 where
  pub projected : Paired l.projected (length l.depths.now)
  pub frontier : Paired l.frontier (length l.depths.now)
  pub history : Paired l.history (length l.depths.now)
