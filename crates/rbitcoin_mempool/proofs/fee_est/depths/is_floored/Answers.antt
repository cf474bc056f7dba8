-- `fee_est::depths::is_floored` meets its contract. Assumes nothing.
use Rattle.std.proofs.Common.{arith}
use Rattle.std.proofs.lemmas.Grind.{common_steps}
use lib.Ieee.{of_bits}
use Rattle.rbitcoin_mempool.specs.Depths.{floored}
use Rattle.rbitcoin_mempool.proofs.fee_est.depths.is_floored.Goals as goal

pub returns-then-is_finite : goal.returns-then-is_finite
unfolding floored of_bits
returns-then-is_finite c = grind (arith, common_steps)

pub returns-else-is_finite : goal.returns-else-is_finite
unfolding floored of_bits
returns-else-is_finite c = grind (arith, common_steps)
