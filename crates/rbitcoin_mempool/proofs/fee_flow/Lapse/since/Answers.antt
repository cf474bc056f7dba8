-- `fee_flow::Lapse::since` meets its contract. Assumes nothing.
use lib.Ieee.{of_bits, of_int}
use Rattle.rbitcoin_mempool.proofs.fee_flow.Lapse.since.Goals as goal

pub returns-then-secs : goal.returns-then-secs
unfolding of_bits of_int
returns-then-secs c = rw c.secs_between-secs.ensures at c.if-secs.true

pub invariant_of-result : goal.invariant_of-result
unfolding of_bits of_int
invariant_of-result c = record { above = c.if-secs.false; left = c.share_left.ensures }
