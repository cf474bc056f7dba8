-- `fee_history::FeeHistory::store` meets its contract. Assumes nothing.
use Rattle.rbitcoin_net.proofs.Inserting.{hold-room, evict_ready, note_ready, stored_all}
use Rattle.rbitcoin_net.proofs.fee_history.FeeHistory.store.Goals as goal

pub note-self-requires : goal.note-self-requires
note-self-requires c = hold-room _ _ _ _ _ _ _ _ c.hold_at.ensures.held c.requires.room

pub evict-requires-clause-small : goal.evict-requires-clause-small
evict-requires-clause-small c = (evict_ready _ _ _ _ _ c.requires.roomy _ _ c.hold_at.ensures.held).0

pub evict-requires-clause-reach : goal.evict-requires-clause-reach
evict-requires-clause-reach c =
    let e = evict_ready _ _ _ _ _ c.requires.roomy _ _ c.hold_at.ensures.held in
    let l = c.lists.ensures in
    record {
      heights = rw l.heights e.1;
      marks = rw l.marks e.2;
      rates = rw l.rates e.3;
      sizes = rw l.sizes e.4;
    }

pub evict-requires-clause-room : goal.evict-requires-clause-room
evict-requires-clause-room c =
    note_ready _ _ _ c.args.new.hash _ _ c.note-self.ensures.noted
    (hold-room _ _ _ _ _ _ _ _ c.hold_at.ensures.held c.requires.room)

pub returns-clause-stored : goal.returns-clause-stored
returns-clause-stored c =
    let l = c.lists.ensures in
    stored_all _ _ _ _ _ _ _ _ _ _ _ _ _ _ _ _ c.hold_at.ensures.held c.note-self.ensures.noted
    (rw (l.heights, l.marks, l.rates, l.sizes) at c.evict.ensures.evicted)
