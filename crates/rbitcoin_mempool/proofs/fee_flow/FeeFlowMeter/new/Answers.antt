-- `fee_flow::FeeFlowMeter::new` meets its contract. Assumes nothing.
use Rattle.std.proofs.Common.{refl}
use lib.Ieee.{of_bits, of_int}
use Rattle.rbitcoin_mempool.proofs.fee_flow.FeeFlowMeter.new.Goals as goal

pub returns : goal.returns
unfolding of_bits of_int
returns c = refl
