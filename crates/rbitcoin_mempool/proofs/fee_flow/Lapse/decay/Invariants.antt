-- `fee_flow::Lapse::decay` meets its contract. The first rates are decayed. Assumes nothing.
use Rattle.std.specs.Prelude.{◌≡◌}
use Rattle.rbitcoin_mempool.specs.Meter.{decayed}
use Rattle.rbitcoin_mempool.proofs.Maps.{filled}
use Rattle.rbitcoin_mempool.proofs.fee_flow.Lapse.decay.Given as goal

abbrev pub invariant-loop-rate : goal.invariant-loop-rate
invariant-loop-rate l = l.rates ≡ filled (decayed l.self.secs) l.initial.rates l.initial.rates l.rate-index
