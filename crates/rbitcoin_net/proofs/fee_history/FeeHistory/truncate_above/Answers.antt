-- `fee_history::FeeHistory::truncate_above` meets its contract. Assumes nothing.
use Rattle.std.proofs.Common.{sym, subst, refl}
use Rattle.rbitcoin_mempool.specs.Outcome.{Verdict}
use Rattle.rbitcoin_mempool.proofs.Refusals.{some_number}
use Rattle.rbitcoin_net.specs.Cuts.{Truncates}
use Rattle.rbitcoin_net.specs.Memory.{rows_seen, hashes_seen}
use Rattle.rbitcoin_net.proofs.Passed.{verdict_err}
use Rattle.rbitcoin_net.proofs.CutSound.{truncate-refused, truncate-done}
use Rattle.rbitcoin_net.proofs.fee_history.FeeHistory.truncate_above.Goals as goal

pub returns-in_err-check_truncate : goal.returns-in_err-check_truncate
returns-in_err-check_truncate c =
    let s = c.args.self.now in
    let m = rows_seen c.args.rows in
    let z = hashes_seen c.args.hashes in
    let k = c.in_err-check_truncate.ensures in
    subst (λ (v : Verdict). Truncates c.args.height m z s v s) (sym (verdict_err _ _ c.from_residual.ensures.1))
    (truncate-refused _ m z s _ k (some_number _ _ refl))

pub returns : goal.returns
returns c =
    let k = c.in_ok-check_truncate.ensures in
    truncate-done _ _ _ _ _ k _ refl c.truncate.ensures
