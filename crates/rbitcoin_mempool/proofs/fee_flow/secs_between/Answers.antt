-- `fee_flow::secs_between` meets its contract. Assumes nothing.
use lib.Ieee.{of_int, of_bits}
use Rattle.rbitcoin_mempool.specs.Meter.{gap}
use Rattle.rbitcoin_mempool.proofs.fee_flow.secs_between.Goals as goal

pub returns : goal.returns
unfolding gap of_int of_bits
returns c = rw (c.from_u64-whole.ensures, c.from_u64.ensures, c.saturating_sub-ns.ensures)
