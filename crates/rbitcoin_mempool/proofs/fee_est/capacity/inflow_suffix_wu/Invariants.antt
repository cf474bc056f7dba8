-- `fee_est::capacity::inflow_suffix_wu` meets its contract. The loop keeps `Summed`. Assumes nothing.
use Rattle.rbitcoin_mempool.proofs.Capacity.{Summed}
use Rattle.rbitcoin_mempool.proofs.fee_est.capacity.inflow_suffix_wu.Given as goal

abbrev pub invariant-loop-i : goal.invariant-loop-i
invariant-loop-i l = Summed l.inflow_wu_per_s_by_bucket l.horizon_secs l.suffix l.i
