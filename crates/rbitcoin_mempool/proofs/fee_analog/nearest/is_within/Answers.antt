-- `fee_analog::nearest::is_within` meets its contract. Assumes nothing.

use Rattle.rbitcoin_mempool.proofs.fee_analog.nearest.is_within.Goals as goal

pub returns-then-d-limit : goal.returns-then-d-limit
returns-then-d-limit c = rw c.if-d-limit.true

pub returns-else-d-limit : goal.returns-else-d-limit
returns-else-d-limit c = rw c.if-d-limit.false
