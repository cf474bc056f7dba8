-- `fee_analog::history::AnalogHistory::pop` meets its contract. Assumes nothing.
use Rattle.std.proofs.Common.{◌+◌, sym, ap, ◌∙◌, arith}
use Rattle.rbitcoin_mempool.specs.Ends.{newest}
use Rattle.rbitcoin_mempool.specs.Windows.{popped}
use Rattle.rbitcoin_mempool.proofs.Refusals.{pop-moves, popped-none, popped-refused, popped-some, some_number, sound, verdict_done, verdict_passed}
use Rattle.rbitcoin_mempool.proofs.fee_analog.history.AnalogHistory.pop.Goals as goal

pub returns-in_err-check : goal.returns-in_err-check
returns-in_err-check c =
    let s = c.args.self.now in
    record {
      refusal = verdict_passed _ _ _ c.from_residual.ensures.1 c.in_err-check.ensures;
      state = popped-refused s _ (some_number _ _ c.in_err-check.ensures) ∙ pop-moves (newest c.args.end) s;
    }

pub overflow_add-self : goal.overflow_add-self
overflow_add-self c =
    let v = sound c.args.self.now (sym c.in_ok-check.ensures) in
    omega (arith, c.popped_in_front.ensures.1)

pub returns-then-self-gt0 : goal.returns-then-self-gt0
returns-then-self-gt0 c =
    let s = c.args.self.now in
    record {
      refusal = verdict_done _ c.in_ok-check.ensures;
      state = popped-some s _ (sym c.in_ok-check.ensures) (λ e. omega arith) ∙ ap (λ n. popped (s.start + n) s) c.popped_in_front.ensures.0 ∙ pop-moves (newest c.args.end) s;
    }

pub returns-else-self-gt0 : goal.returns-else-self-gt0
returns-else-self-gt0 c =
    let s = c.args.self.now in
    record {
      refusal = verdict_done _ c.in_ok-check.ensures;
      state = popped-none s _ (sym c.in_ok-check.ensures) (omega arith) ∙ pop-moves (newest c.args.end) s;
    }
