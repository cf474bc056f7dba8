-- `fee_history::FeeHistory::cut_at` meets its contract. Assumes nothing.
use mathlib.Core.Path.{ap, ◌∙◌}
use native.Mathlib.Omega.{arith}
use Rattle.rbitcoin_mempool.specs.Windows.{pop_back_of}
use Rattle.rbitcoin_net.specs.declared.fee_history.FeeHistory.{FeeHistory}
use Rattle.rbitcoin_net.specs.Cuts.{forget_row}
use Rattle.rbitcoin_net.specs.Memory.{rows_seen}
use Rattle.rbitcoin_net.proofs.Cuts.{forgotten-at, rows_turn, rows_none, cut-done}
use Rattle.rbitcoin_net.proofs.fee_history.FeeHistory.cut_at.Goals as goal

pub loop-i-preserved : goal.loop-i-preserved
unfolding forget_row
loop-i-preserved c =
    let m = rows_seen c.args.rows in
    let e = forgotten-at pop_back_of m c.loop-i.i _ _ _ c.block_at.ensures c.forget.ensures in
    record {
      first = omega arith;
      start = ap (λ (t : FeeHistory). t.start) e ∙ c.loop-i.invariant.start;
      state = rows_turn _ _ _ _ c.loop-i.i _ _ (omega arith) e c.loop-i.invariant.state;
    }

pub returns : goal.returns
returns c =
    cut-done _ _ _ _ (rows_none _ _ _ _ c.loop-i.i _ (omega arith) c.loop-i.invariant.state)
