-- `fee_est::depths::as_float` meets its contract. Assumes nothing.
use lib.Ieee.{of_bits}
use Rattle.num.proofs.WholeSum.{bits-number, bits_float}
use Rattle.rbitcoin_mempool.proofs.fee_est.depths.as_float.Goals as goal

pub float_from_bits-result : goal.float_from_bits-result
float_from_bits-result c = bits-number c.args.n c.requires

pub returns : goal.returns
unfolding of_bits
returns c = bits_float c.args.n c.requires
