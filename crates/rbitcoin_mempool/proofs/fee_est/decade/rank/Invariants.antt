-- `fee_est::decade::rank` meets its contract: the rank grows by each of the five. Assumes nothing.
use Rattle.std.specs.Prelude.{◌+◌}
use Rattle.rbitcoin_mempool.specs.Decade.{Ranked}
use Rattle.rbitcoin_mempool.proofs.fee_est.decade.rank.Given as goal

abbrev pub invariant-loop-edge : goal.invariant-loop-edge
invariant-loop-edge l = Ranked l.y (l.first + l.edge-index) l.rank
