-- `fee_analog::quantile::historical_confidence_far` meets its contract: the constant's bits are those of the double nearest 0.95. Assumes nothing.
use Rattle.std.proofs.Common.{refl}
use lib.Ieee.{of_int, of_bits}
use Rattle.rbitcoin_mempool.proofs.fee_analog.quantile.historical_confidence_far.Goals as goal

pub returns : goal.returns
unfolding of_int of_bits
returns c = refl
