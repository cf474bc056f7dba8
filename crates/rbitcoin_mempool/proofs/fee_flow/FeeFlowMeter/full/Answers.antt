-- `fee_flow::FeeFlowMeter::full` meets its contract. Assumes nothing.
use lib.Ieee.{of_bits, of_int}
use Rattle.rbitcoin_mempool.specs.Meter.{full}
use Rattle.rbitcoin_mempool.proofs.fee_flow.FeeFlowMeter.full.Goals as goal

pub returns : goal.returns
unfolding full of_bits of_int
returns c = rw c.flow_full_wu.ensures at c.clamp.ensures
