-- `fee_history::FeeHistory::recent_hashes` meets its contract. Assumes nothing.
use Rattle.std.proofs.Common.{sym, subst, refl, ◌∙◌}
use Rattle.rbitcoin_mempool.specs.Counted.{Counted}
use Rattle.rbitcoin_mempool.proofs.Refusals.{some_number}
use Rattle.rbitcoin_net.specs.Memory.{hashes_of, hashes_seen}
use Rattle.rbitcoin_net.specs.Readers.{RecentHashes}
use Rattle.rbitcoin_net.proofs.Passed.{counted_err}
use Rattle.rbitcoin_net.proofs.Refusals.{recent-fits}
use Rattle.rbitcoin_net.proofs.Readers.{recent-refused, recent-written, front-written}
use Rattle.rbitcoin_net.proofs.fee_history.FeeHistory.recent_hashes.Goals as goal

pub returns-in_err-check_recent-clause-written : goal.returns-in_err-check_recent-clause-written
returns-in_err-check_recent-clause-written c =
    let s = c.args.self.now in
    let z = hashes_seen c.args.hashes in
    let o = hashes_of c.args.out.now in
    let l = c.lists.ensures in
    let k = rw (l.heights, l.bytes) at c.in_err-check_recent.ensures in
    subst (λ (a : Counted). RecentHashes s z o o a) (sym (counted_err _ _ c.from_residual.ensures.1))
    (recent-refused s z o _ k (some_number _ _ refl))

pub returns-clause-written : goal.returns-clause-written
returns-clause-written c =
    let s = c.args.self.now in
    let l = c.lists.ensures in
    let k = rw (l.heights, l.bytes) at c.in_ok-check_recent.ensures in
    let f = recent-fits s _ _ _ _ (sym k) in
    recent-written s _ _ 0 _ k refl
    (c.copy_front.ensures ∙ front-written _ _ _ f.heights f.to-heights)
    (c.copy_front-2.ensures ∙ front-written _ _ _ f.bytes f.to-bytes)
