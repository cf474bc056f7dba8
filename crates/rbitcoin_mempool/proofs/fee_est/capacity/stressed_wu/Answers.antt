-- `fee_est::capacity::stressed_wu` meets its contract. Assumes nothing.
use Rattle.std.proofs.Common.{le-leb}
use lib.Ieee.{of_bits}
use Rattle.rbitcoin_mempool.specs.Capacity.{stressed_wu}
use Rattle.rbitcoin_mempool.proofs.fee_est.capacity.stressed_wu.Goals as goal

pub returns-then-n_blocks-le1 : goal.returns-then-n_blocks-le1
unfolding stressed_wu of_bits
returns-then-n_blocks-le1 c = rw (le-leb c.args.n_blocks 1 c.if-n_blocks-le1.true, c.to_u64.ensures, c.from_u64-wu.ensures)
