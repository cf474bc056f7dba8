-- `fee_analog::nearest::fill_distances` meets its contract. The loop's invariant: the first i places hold the first i distances, the rest is as it was. Assumes nothing.
use Rattle.rbitcoin_mempool.proofs.Neighbors.{Filled}
use Rattle.rbitcoin_mempool.proofs.fee_analog.nearest.fill_distances.Given as goal

abbrev pub invariant-loop-i : goal.invariant-loop-i
invariant-loop-i l = Filled l.logs l.level l.initial.out l.out l.i
