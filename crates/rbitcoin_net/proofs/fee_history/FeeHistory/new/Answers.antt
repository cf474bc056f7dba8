-- `fee_history::FeeHistory::new` meets its contract. Assumes nothing.
use Rattle.std.proofs.Common.{sym, subst, refl}
use Rattle.rbitcoin_mempool.specs.Outcome.{Verdict}
use Rattle.rbitcoin_mempool.proofs.Refusals.{some_number}
use Rattle.rbitcoin_net.specs.Memory.{lent_seen}
use Rattle.rbitcoin_net.specs.Openings.{Opens, opened_or_empty}
use Rattle.rbitcoin_net.proofs.Passed.{verdict_err, opened_err, number_of_verdict}
use Rattle.rbitcoin_net.proofs.Openings.{new-refused, new_short, new-done}
use Rattle.rbitcoin_net.proofs.fee_history.FeeHistory.new.Goals as goal

pub returns-in_err-analog : goal.returns-in_err-analog
returns-in_err-analog c =
    let m = lent_seen c.args.rows c.args.hashes c.args.windows in
    let q = c.from_residual in
    let w = number_of_verdict _ _ c.in_err-analog.ensures.refusal in
    subst (λ (v : Verdict). Opens c.args.budget c.args.targets.now c.args.capacity m v (opened_or_empty q.result))
    (sym (verdict_err _ _ q.ensures.1))
    (new-refused _ _ _ m _ _ w (some_number _ _ refl) (opened_err _ _ q.ensures.1))

pub returns-in_err-check_memory : goal.returns-in_err-check_memory
returns-in_err-check_memory c =
    let m = lent_seen c.args.rows c.args.hashes c.args.windows in
    let q = c.from_residual-in_err-check_memory in
    let w = number_of_verdict _ _ c.in_ok-analog.ensures.refusal in
    let k = c.in_err-check_memory.ensures in
    subst (λ (v : Verdict). Opens c.args.budget c.args.targets.now c.args.capacity m v (opened_or_empty q.result))
    (sym (verdict_err _ _ q.ensures.1))
    (new_short _ _ _ m _ _ w refl _ k (some_number _ _ refl) (opened_err _ _ q.ensures.1))

pub returns : goal.returns
returns c =
    let m = lent_seen c.args.rows c.args.hashes c.args.windows in
    let w = number_of_verdict _ _ c.in_ok-analog.ensures.refusal in
    let k = c.in_ok-check_memory.ensures in
    new-done _ _ _ m _ _ w refl _ k _ c.in_ok-analog.ensures.state refl c.fresh.ensures
