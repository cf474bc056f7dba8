-- `fee_analog::nearest::analog_band` meets its contract: the constant is 1.25. Assumes nothing.
use Rattle.std.proofs.Common.{refl}
use lib.Ieee.{of_int, of_bits}
use Rattle.rbitcoin_mempool.proofs.fee_analog.nearest.analog_band.Goals as goal

pub returns : goal.returns
unfolding of_int of_bits
returns c = refl
