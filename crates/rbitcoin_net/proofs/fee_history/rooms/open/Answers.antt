-- `fee_history::rooms::open` meets its contract. Assumes nothing.
use Rattle.rbitcoin_net.proofs.Rooms.{open-down, open_up}
use Rattle.rbitcoin_net.proofs.fee_history.rooms.open.Goals as goal
use Rattle.rbitcoin_net.proofs.fee_history.rooms.open.Goals.{then-to-from, else-to-from}

pub returns : goal.returns
returns g c =
    elim c.if-to-from.branch [
      | then-to-from w ↦ rw w.xs-is (open-down _ _ _ _ _ c.requires.0 c.requires.1 _ _ _ w.if-to-from.true w.copy_within.ensures w.copy_within-then-to-from.ensures)
      | else-to-from w ↦ rw w.xs-is (open_up _ _ _ _ _ c.requires.0 c.requires.1 _ _ _ w.if-to-from.false w.copy_within-else-to-from.ensures w.copy_within-else-to-from-2.ensures)
    ]
