-- `fee_analog::nearest::collect_nearest` meets its contract. The loop's invariant is `Left` of proofs/Cuts.antt. Assumes nothing.
use Rattle.std.proofs.Common.{length}
use Rattle.rbitcoin_mempool.proofs.Cuts.{Left}
use Rattle.rbitcoin_mempool.proofs.fee_analog.nearest.collect_nearest.Given as goal

abbrev pub invariant-loop-distance : goal.invariant-loop-distance
invariant-loop-distance l = Left (length l.initial.out) l.distances l.outcomes l.cut l.distance-iterator.a.rest.now l.distance-iterator.b.rest.now l.out l.at_cut l.n
