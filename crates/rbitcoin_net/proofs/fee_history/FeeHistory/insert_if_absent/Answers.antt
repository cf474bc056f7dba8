-- `fee_history::FeeHistory::insert_if_absent` meets its contract. Assumes nothing.
use Rattle.std.proofs.Common.{sym, subst, refl}
use Rattle.rbitcoin_mempool.specs.Outcome.{Verdict}
use Rattle.rbitcoin_mempool.proofs.Refusals.{some_number}
use Rattle.rbitcoin_net.specs.Hashes.{hash_of}
use Rattle.rbitcoin_net.specs.Inserts.{InsertsIfAbsent, whole}
use Rattle.rbitcoin_net.specs.Memory.{lent_of}
use Rattle.rbitcoin_net.proofs.Passed.{verdict_err}
use Rattle.rbitcoin_net.proofs.Inserting.{hash-whole}
use Rattle.rbitcoin_net.proofs.Preloads.{preload-refused}
use Rattle.rbitcoin_net.proofs.Preloading.{preload_short}
use Rattle.rbitcoin_net.proofs.fee_history.FeeHistory.insert_if_absent.Goals as goal

pub returns-in_err-check_lent-clause-inserted : goal.returns-in_err-check_lent-clause-inserted
returns-in_err-check_lent-clause-inserted c =
    let s = c.args.self.now in
    let m = lent_of c.args.rows.now c.args.hashes.now c.args.windows.now in
    let h = c.args.height in
    let hash = hash_of c.args.hash in
    let l = c.lists.ensures in
    let y = c.lists-2.ensures in
    let w = c.lists-3.ensures in
    let k = rw (l.heights, l.marks, l.rates, l.sizes, y.heights, y.bytes, w.hurdles, w.befores, w.aheads) at c.in_err-check_lent.ensures in
    let n = some_number _ _ refl in
    subst (λ (v : Verdict). InsertsIfAbsent h c.args.block hash (whole s m) v (whole s m)) (sym (verdict_err _ _ c.from_residual.ensures.1))
    (preload-refused h c.args.block hash (hash-whole c.args.hash) (whole s m) _ (preload_short h s m _ k n) n)

pub insert_absent_lent-requires : goal.insert_absent_lent-requires
insert_absent_lent-requires c =
    let l = c.lists.ensures in
    let y = c.lists-2.ensures in
    let w = c.lists-3.ensures in
    sym (rw (l.heights, l.marks, l.rates, l.sizes, y.heights, y.bytes, w.hurdles, w.befores, w.aheads) at c.in_ok-check_lent.ensures)
