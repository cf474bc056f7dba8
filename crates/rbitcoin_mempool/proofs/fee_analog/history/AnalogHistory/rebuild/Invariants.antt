-- `fee_analog::history::AnalogHistory::rebuild` meets its contract. The loop's invariant: what is to come, pushed onto what there is, is all pushed onto nothing, and there is room for it. Assumes nothing.
use Rattle.std.proofs.Common.{◌≡◌, ◌+◌, ◌≤◌, length, drop}
use Rattle.rbitcoin_mempool.specs.Memory.{SameLent, windows_of}
use Rattle.rbitcoin_mempool.specs.Windows.{push_all}
use Rattle.rbitcoin_mempool.proofs.Kept.{Good}
use Rattle.rbitcoin_mempool.proofs.fee_analog.history.AnalogHistory.rebuild.Given as goal

abbrev pub invariant-loop-hurdle : goal.invariant-loop-hurdle
invariant-loop-hurdle l =
    record {
      after : push_all (drop l.hurdle-index l.from) (windows_of l.self l.memory) ≡ push_all l.from (windows_of l.initial.self l.initial.memory);
      good : Good (windows_of l.self l.memory);
      room : l.self.count + length l.from ≤ l.self.capacity + l.hurdle-index;
      lent : SameLent l.initial.memory l.memory;
    }
