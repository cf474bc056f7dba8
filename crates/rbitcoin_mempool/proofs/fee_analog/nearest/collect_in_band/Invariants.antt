-- `fee_analog::nearest::collect_in_band` meets its contract. The loop's invariant is `Gathering` of proofs/Neighbors.antt. Assumes nothing.
use Rattle.rbitcoin_mempool.specs.Nearest.{listed}
use Rattle.rbitcoin_mempool.proofs.Neighbors.{Gathering}
use Rattle.rbitcoin_mempool.proofs.fee_analog.nearest.collect_in_band.Given as goal

abbrev pub invariant-loop-log : goal.invariant-loop-log
invariant-loop-log l = Gathering l.level (listed l.pairs) l.log-iterator.a.rest.now l.log-iterator.b.rest.now l.out l.n
