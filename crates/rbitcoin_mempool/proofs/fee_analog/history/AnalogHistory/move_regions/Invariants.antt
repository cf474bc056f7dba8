-- `fee_analog::history::AnalogHistory::move_regions` meets its contract. The loop's invariant: the first d regions are moved. Assumes nothing.
use Rattle.std.proofs.Common.{◌≡◌}
use Rattle.rbitcoin_mempool.specs.Windows.{each_target, move_region}
use Rattle.rbitcoin_mempool.proofs.fee_analog.history.AnalogHistory.move_regions.Given as goal

abbrev pub invariant-loop-d : goal.invariant-loop-d
invariant-loop-d l =
    record {
      befores : l.befores ≡ each_target (move_region l.self.capacity l.to l.self.start l.self.count) l.d l.initial.befores;
      aheads : l.aheads ≡ each_target (move_region l.self.capacity l.to l.self.start l.self.count) l.d l.initial.aheads;
    }
