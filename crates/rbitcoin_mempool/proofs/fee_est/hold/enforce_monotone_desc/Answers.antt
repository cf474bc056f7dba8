-- `fee_est::hold::enforce_monotone_desc` meets its contract. The loop keeps `Lowering`. Assumes nothing.
use Rattle.std.proofs.Common.{arith}
use Rattle.rbitcoin_mempool.proofs.Passes.{lower-start, lower-step, lower_end}
use Rattle.rbitcoin_mempool.proofs.fee_est.hold.enforce_monotone_desc.Goals as goal

pub loop-i-init : goal.loop-i-init
loop-i-init c = lower-start _

pub loop-i-preserved : goal.loop-i-preserved
loop-i-preserved c = lower-step _ _ c.loop-i.i _ c.loop-i.invariant (omega arith) c.min.ensures

pub returns : goal.returns
returns c = lower_end _ _ c.loop-i.i c.loop-i.invariant (omega arith)
