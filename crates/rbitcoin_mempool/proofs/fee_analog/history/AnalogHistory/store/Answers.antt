-- `fee_analog::history::AnalogHistory::store` meets its contract. Assumes nothing.
use Rattle.rbitcoin_mempool.specs.Windows.{store_back, store_front}
use Rattle.rbitcoin_mempool.proofs.fee_analog.history.AnalogHistory.store.Goals as goal
use Rattle.rbitcoin_mempool.proofs.fee_analog.history.AnalogHistory.store.Goals.{in-Newest, in-Oldest}

pub returns-clause-stored : goal.returns-clause-stored
unfolding store_back store_front
returns-clause-stored c = elim c.match-end.branch [
  | in-Newest w ↦ rw (w.in-Newest.is, w.self-is, w.place-is)
  | in-Oldest w ↦ rw (w.in-Oldest.is, w.self-is, w.place-is)
]
