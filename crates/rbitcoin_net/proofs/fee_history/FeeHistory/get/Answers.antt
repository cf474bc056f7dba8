-- `fee_history::FeeHistory::get` meets its contract. Assumes nothing.
use Rattle.std.proofs.Common.{sym, subst, refl}
use Rattle.rbitcoin_mempool.proofs.Refusals.{some_number}
use Rattle.rbitcoin_net.specs.Memory.{rows_seen}
use Rattle.rbitcoin_net.specs.Search.{Looked, Gets}
use Rattle.rbitcoin_net.proofs.Passed.{looked_err}
use Rattle.rbitcoin_net.proofs.Search.{get_refused, get-given}
use Rattle.rbitcoin_net.proofs.fee_history.FeeHistory.get.Goals as goal

pub returns-in_err-check_rows : goal.returns-in_err-check_rows
returns-in_err-check_rows c =
    let k = c.in_err-check_rows.ensures in
    subst (λ (a : Looked). Gets c.args.self.now (rows_seen c.args.rows) c.args.height a)
    (sym (looked_err _ _ c.from_residual.ensures.1))
    (get_refused _ _ _ _ k (some_number _ _ refl))

pub returns : goal.returns
returns c =
    let k = c.in_ok-check_rows.ensures in
    get-given _ _ _ 0 _ k refl c.look_up.ensures
