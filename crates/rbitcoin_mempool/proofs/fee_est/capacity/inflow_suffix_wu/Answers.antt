-- `fee_est::capacity::inflow_suffix_wu` meets its contract. The loop keeps `Summed`. Assumes nothing.
use Rattle.std.proofs.Common.{◌≡◌, arith}
use Rattle.rbitcoin_mempool.proofs.Capacity.{summed-start, summed-step, summed_end}
use Rattle.rbitcoin_mempool.proofs.fee_est.capacity.inflow_suffix_wu.Goals as goal

pub loop-i-init : goal.loop-i-init
loop-i-init c = summed-start _ c.args.horizon_secs c.min-i.result (rw c.bucket_count.ensures at c.min-i.ensures)

pub loop-i-preserved : goal.loop-i-preserved
loop-i-preserved c =
    summed-step _ c.args.horizon_secs _ c.loop-i.i _ (omega arith) c.loop-i.invariant (rw c.saturating_mul-wu.ensures at c.saturating_add.ensures)

pub returns : goal.returns
returns c = let e : c.loop-i.i ≡ 0 = omega arith in summed_end _ c.args.horizon_secs _ (rw e at c.loop-i.invariant)
