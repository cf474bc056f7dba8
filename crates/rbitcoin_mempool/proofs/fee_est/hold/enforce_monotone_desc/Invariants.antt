-- `fee_est::hold::enforce_monotone_desc` meets its contract. The loop keeps `Lowering`. Assumes nothing.
use Rattle.rbitcoin_mempool.proofs.Passes.{Lowering}
use Rattle.rbitcoin_mempool.proofs.fee_est.hold.enforce_monotone_desc.Given as goal

abbrev pub invariant-loop-i : goal.invariant-loop-i
invariant-loop-i l = Lowering l.initial.rates l.rates l.i
