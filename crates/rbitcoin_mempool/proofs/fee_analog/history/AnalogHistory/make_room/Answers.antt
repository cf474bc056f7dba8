-- `fee_analog::history::AnalogHistory::make_room` meets its contract. Assumes nothing.
use Rattle.std.proofs.Common.{◌∙◌}
use Rattle.rbitcoin_mempool.proofs.Values.{back-kept, back-moved, front_kept, front-moved}
use Rattle.rbitcoin_mempool.proofs.fee_analog.history.AnalogHistory.make_room.Goals as goal

pub returns-then-self-clause-room : goal.returns-then-self-clause-room
returns-then-self-clause-room c = rw c.in-Newest.is (c.move_to.ensures.moved ∙ back-moved _ c.if-self.true)

pub returns-else-self-clause-room : goal.returns-else-self-clause-room
returns-else-self-clause-room c = rw c.in-Newest.is (back-kept _ c.if-self.false)

pub returns-then-self-eq0-clause-room : goal.returns-then-self-eq0-clause-room
returns-then-self-eq0-clause-room c = rw c.in-Oldest.is (c.move_to-then-self-eq0.ensures.moved ∙ front-moved _ c.if-self-eq0.true)

pub returns-else-self-eq0-clause-room : goal.returns-else-self-eq0-clause-room
returns-else-self-eq0-clause-room c = rw c.in-Oldest.is (front_kept _ c.if-self-eq0.false)
