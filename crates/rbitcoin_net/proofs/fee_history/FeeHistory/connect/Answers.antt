-- `fee_history::FeeHistory::connect` meets its contract. Assumes nothing.
use Rattle.rbitcoin_net.specs.Memory.{lent_of}
use Rattle.rbitcoin_net.proofs.Connecting.{hash_sought, reached, left_is, store_ready, connected_all}
use Rattle.rbitcoin_net.proofs.fee_history.FeeHistory.connect.Goals as goal

pub cut_at-requires-clause-reach : goal.cut_at-requires-clause-reach
cut_at-requires-clause-reach c =
    let l = c.lists-2.ensures in
    rw (l.heights, l.marks, l.rates, l.sizes) (reached _ _ _ _ c.requires.placed)

pub store-requires : goal.store-requires
store-requires c =
    let l = c.lists-2.ensures in
    let left = left_is _ _ _ (lent_of c.args.rows.now c.args.hashes.now c.args.windows.now) c.requires.placed _ _
    (hash_sought _ _ _ _ c.requires.placed _ (rw c.lists.ensures.heights at c.lower_bound-q.ensures.value)) (rw (l.heights, l.marks, l.rates, l.sizes) at c.cut_at.ensures) in
    let r = store_ready _ _ _ _ c.requires.placed _ _ _ _ _ _ left c.push_rate.ensures.pushed _ c.push_rate.ensures.state c.requires.room in
    record { roomy = r.0; room = r.1 }

pub returns-clause-inserted : goal.returns-clause-inserted
returns-clause-inserted c =
    let l = c.lists-2.ensures in
    let left = left_is _ _ _ (lent_of c.args.rows.now c.args.hashes.now c.args.windows.now) c.requires.placed _ _
    (hash_sought _ _ _ _ c.requires.placed _ (rw c.lists.ensures.heights at c.lower_bound-q.ensures.value)) (rw (l.heights, l.marks, l.rates, l.sizes) at c.cut_at.ensures) in
    connected_all _ _ _ _ c.requires.placed c.args.new.block _ _ _ _ _ _ _ _ _ _ left c.push_rate.ensures.pushed
    c.push_rate.ensures.state c.store.ensures.stored
