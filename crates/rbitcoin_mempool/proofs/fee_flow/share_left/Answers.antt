-- `fee_flow::share_left` meets its contract. Assumes nothing.
use lib.Ieee.{of_int, of_bits}
use Rattle.rbitcoin_mempool.specs.Meter.{share_left}
use Rattle.rbitcoin_mempool.proofs.fee_flow.share_left.Goals as goal

pub returns : goal.returns
unfolding share_left of_int of_bits
returns c = c.exp.ensures
