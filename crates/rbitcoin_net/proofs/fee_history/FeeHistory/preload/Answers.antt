-- `fee_history::FeeHistory::preload` meets its contract. Assumes nothing.
use Rattle.rbitcoin_net.proofs.Preloading.{preload_ready, preloaded_all}
use Rattle.rbitcoin_net.proofs.fee_history.FeeHistory.preload.Goals as goal

pub store-requires : goal.store-requires
store-requires c =
    let r = preload_ready _ _ _ _ c.requires.placed _ _ _ _ _ _ _ c.requires.room c.push_at.ensures.state
    c.push_at.ensures.pushed in
    record { roomy = r.0; room = r.1 }

pub returns-clause-inserted : goal.returns-clause-inserted
returns-clause-inserted c =
    preloaded_all _ _ _ _ c.requires.placed c.args.new.block _ _ _ _ _ _ _ _ _ _ c.requires.absent c.stale_at-stale.ensures
    c.push_at.ensures.pushed c.push_at.ensures.state c.store.ensures.stored
