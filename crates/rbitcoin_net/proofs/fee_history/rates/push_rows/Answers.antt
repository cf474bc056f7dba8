-- `fee_history::rates::push_rows` meets its contract. Assumes nothing.
use Prim.Native.Nat.{◌+◌}
use mathlib.Core.Bool.{false}
use mathlib.Core.Path.{ap, sym, ◌∙◌}
use borrow.Author.Rules.{rules}
use Rattle.rbitcoin_mempool.specs.Memory.{windows_of}
use Rattle.rbitcoin_mempool.specs.Windows.{push_back_of}
use Rattle.rbitcoin_net.specs.Inserts.{push_rate}
use Rattle.rbitcoin_net.specs.Lent.{row_at}
use Rattle.rbitcoin_net.specs.Memory.{rows_seen}
use Rattle.rbitcoin_net.proofs.Rating.{rows_turn, rows-done}
use Rattle.rbitcoin_net.proofs.Readers.{given_rate}
use Rattle.rbitcoin_net.proofs.fee_history.rates.push_rows.Goals as goal

pub loop-at-preserved : goal.loop-at-preserved
loop-at-preserved c =
    let w = windows_of c.loop-at.analog c.loop-at.windows in
    let m = row_at (rows_seen c.args.rows) in
    let l = c.marked-held.ensures in
    let r = (rw (l.numbers, l.marks) at c.rate_at.ensures) ∙ sym (given_rate _ _) in
    let e = c.push_rate.ensures.pushed ∙ ap (λ o. push_rate push_back_of o false w) r in
    record {
      pushed = rows_turn m (c.args.start + c.args.n) _ c.loop-at.at w _ c.loop-at-test.true e c.loop-at.invariant.pushed;
      lent = search rules;
    }

pub returns-clause-pushed : goal.returns-clause-pushed
returns-clause-pushed c =
    let m = row_at (rows_seen c.args.rows) in
    rows-done m (c.args.start + c.args.n) _ c.loop-at.at _ c.loop-at-test.false c.loop-at.invariant.pushed
