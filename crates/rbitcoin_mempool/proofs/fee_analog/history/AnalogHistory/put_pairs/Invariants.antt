-- `fee_analog::history::AnalogHistory::put_pairs` meets its contract. The loop's invariant: the first d targets have their pair. Assumes nothing.
use Rattle.std.proofs.Common.{◌≡◌}
use Rattle.rbitcoin_mempool.specs.Ends.{newest}
use Rattle.rbitcoin_mempool.specs.Memory.{SameLent}
use Rattle.rbitcoin_mempool.specs.Pairs.{ahead_at, before_at}
use Rattle.rbitcoin_mempool.specs.Windows.{each_target, held, put}
use Rattle.rbitcoin_mempool.proofs.fee_analog.history.AnalogHistory.put_pairs.Given as goal

abbrev pub invariant-loop-d : goal.invariant-loop-d
invariant-loop-d l =
    record {
      hurdles : l.memory.hurdles.now ≡ l.initial.memory.hurdles.now;
      befores : l.memory.befores.now ≡ each_target (put before_at (newest l.end) l.self (held l.self l.initial.memory.hurdles.now)) l.d l.initial.memory.befores.now;
      aheads : l.memory.aheads.now ≡ each_target (put ahead_at (newest l.end) l.self (held l.self l.initial.memory.hurdles.now)) l.d l.initial.memory.aheads.now;
      lent : SameLent l.initial.memory l.memory;
    }
