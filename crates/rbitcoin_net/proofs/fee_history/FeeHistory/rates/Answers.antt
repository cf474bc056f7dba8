-- `fee_history::FeeHistory::rates` meets its contract. Assumes nothing.
use Rattle.std.proofs.Common.{length, sym, subst, refl, arith}
use Rattle.rbitcoin_mempool.specs.Outcome.{Verdict}
use Rattle.rbitcoin_mempool.proofs.Refusals.{some_number}
use Rattle.rbitcoin_net.specs.Memory.{rated_of, rows_seen}
use Rattle.rbitcoin_net.specs.Rates.{AnswersRates, answers_in, outputs}
use Rattle.rbitcoin_net.proofs.Passed.{verdict_err}
use Rattle.rbitcoin_net.proofs.Rates.{rates-refused, rates-done, rates_tracked}
use Rattle.rbitcoin_net.proofs.Refusals.{rates-fit, within}
use Rattle.rbitcoin_net.proofs.fee_history.FeeHistory.rates.Goals as goal

pub returns-in_err-check_rates-clause-answers : goal.returns-in_err-check_rates-clause-answers
returns-in_err-check_rates-clause-answers c =
    let m = rows_seen c.args.rows in
    let x = rated_of c.args.self.now c.args.windows.now in
    let o = outputs c.args.scratch.now c.args.out.now.numbers.now c.args.out.now.marks.now in
    let l = c.lists.ensures in
    let k = rw (l.hurdles, l.befores, l.aheads) at c.in_err-check_rates.ensures in
    subst (λ (v : Verdict). AnswersRates m x o v x o) (sym (verdict_err _ _ c.from_residual.ensures.1))
    (rates-refused m x o _ k (some_number _ _ refl))

pub put_rates-requires : goal.put_rates-requires
put_rates-requires c =
    let s = c.args.self.now in
    let m = rows_seen c.args.rows in
    let x = rated_of s c.args.windows.now in
    let l = c.lists.ensures in
    let k = rw (l.hurdles, l.befores, l.aheads) at (sym c.in_ok-check_rates.ensures) in
    let v = rates-fit s _ _ _ _ _ _ _ _ _ _ k in
    let f = (within s v.state).few in
    let e = rates_tracked (length c.args.scratch.now) m x _ c.keep_rates.ensures.rates in
    record { held = (omega arith, omega arith); fits = (omega (arith, v.numbers), omega (arith, v.marks)) }

pub returns-clause-answers : goal.returns-clause-answers
unfolding answers_in
returns-clause-answers c =
    let m = rows_seen c.args.rows in
    let x = rated_of c.args.self.now c.args.windows.now in
    let o = outputs c.args.scratch.now c.args.out.now.numbers.now c.args.out.now.marks.now in
    let l = c.lists.ensures in
    let k = rw (l.hurdles, l.befores, l.aheads) at c.in_ok-check_rates.ensures in
    rates-done m x o _ _ (sym k) c.keep_rates.ensures.rates
    c.put_rates.ensures.numbers c.put_rates.ensures.marks c.keep_rates.auto.scratch
    c.keep_rates.ensures.scratch_unchanged c.keep_rates.ensures.scratch_unread
