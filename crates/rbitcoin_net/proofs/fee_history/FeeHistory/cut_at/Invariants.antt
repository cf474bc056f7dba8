-- `fee_history::FeeHistory::cut_at` meets its contract. Assumes nothing.
use Prim.Native.Nat.{◌+◌, ◌-◌, ◌≤◌}
use mathlib.Core.Path.{◌≡◌}
use Rattle.rbitcoin_mempool.specs.Windows.{pop_back_of}
use Rattle.rbitcoin_net.specs.Memory.{rows_seen}
use Rattle.rbitcoin_net.specs.Cuts.{forget_rows}
use Rattle.rbitcoin_net.proofs.fee_history.FeeHistory.cut_at.Given as goal

abbrev pub invariant-loop-i : goal.invariant-loop-i
invariant-loop-i l =
    let m = rows_seen l.rows in
    let s = l.initial.self in
    let end = s.start + s.count in
    record {
      first : l.p ≤ l.i;
      start : l.self.start ≡ s.start;
      state : forget_rows pop_back_of m l.i (end - l.i) l.self ≡ forget_rows pop_back_of m l.p (end - l.p) s;
    }
