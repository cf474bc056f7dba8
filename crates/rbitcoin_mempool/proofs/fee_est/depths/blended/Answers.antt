-- `fee_est::depths::blended` meets its contract. Assumes nothing.
use lib.Ieee.{of_bits}
use Rattle.rbitcoin_mempool.specs.Depths.{blended}
use Rattle.rbitcoin_mempool.proofs.fee_est.depths.blended.Goals as goal

pub returns : goal.returns
unfolding blended of_bits
returns c = rw (c.round_to_u64.ensures, c.from_u64.ensures, c.from_u64-2.ensures)
