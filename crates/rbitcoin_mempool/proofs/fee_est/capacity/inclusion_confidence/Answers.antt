-- `fee_est::capacity::inclusion_confidence` meets its contract: both numbers are computed. Assumes nothing.
use Rattle.std.proofs.Common.{arith}
use Rattle.std.proofs.lemmas.Grind.{common_steps}
use lib.Ieee.{of_bits, round}
use Rattle.rbitcoin_mempool.specs.Capacity.{inclusion_confidence}
use Rattle.rbitcoin_mempool.proofs.fee_est.capacity.inclusion_confidence.Goals as goal

pub returns-then-n_blocks-le1 : goal.returns-then-n_blocks-le1
unfolding inclusion_confidence of_bits round
returns-then-n_blocks-le1 c = grind (arith, common_steps)

pub returns-else-n_blocks-le1 : goal.returns-else-n_blocks-le1
unfolding inclusion_confidence of_bits round
returns-else-n_blocks-le1 c = grind (arith, common_steps)
