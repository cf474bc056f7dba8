-- `fee_flow::admit_half_life_secs` meets its contract: the constant's bits are those of 150. Assumes nothing.
use Rattle.std.proofs.Common.{refl}
use lib.Ieee.{of_int, of_bits}
use Rattle.rbitcoin_mempool.proofs.fee_flow.admit_half_life_secs.Goals as goal

pub returns : goal.returns
unfolding of_int of_bits
returns c = refl
