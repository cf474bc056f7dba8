-- `fee_analog::history::AnalogHistory::new` meets its contract. Assumes nothing.
use Rattle.std.proofs.Common.{sym, ◌∙◌}
use Rattle.rbitcoin_mempool.specs.Windows.{fresh}
use Rattle.rbitcoin_mempool.proofs.Refusals.{open_by, open_done, verdict_done, verdict_passed}
use Rattle.rbitcoin_mempool.proofs.fee_analog.history.AnalogHistory.new.Goals as goal

pub returns-in_err-check_lent-clause-refusal : goal.returns-in_err-check_lent-clause-refusal
unfolding fresh
returns-in_err-check_lent-clause-refusal c =
    let e = open_by c.args.targets.now c.args.capacity _ _ _ _ (rw c.padded.ensures) in
    verdict_passed _ _ _ c.from_residual.ensures.1 (c.in_err-check_lent.ensures ∙ e)

pub returns : goal.returns
unfolding fresh
returns c =
    let z = c.in_ok-check_lent.ensures in
    let e = open_by c.args.targets.now c.args.capacity _ _ _ _ (rw c.padded.ensures) in
    record {
      refusal = verdict_done _ (z ∙ e);
      state = open_done c.args.targets.now c.args.capacity _ _ _ _ (rw c.padded.ensures) (sym z);
    }
