-- `fee_history::readers::put_rates` meets its contract. Assumes nothing.
use mathlib.Core.Path.{ap, ◌∙◌}
use lib.ListN.{length-set}
use borrow.Author.Rules.{rules}
use Rattle.rbitcoin_mempool.specs.Rates.{rate_at, number_of, mark_of}
use Rattle.rbitcoin_mempool.proofs.RateLists.{number_written, mark_written}
use Rattle.rbitcoin_net.proofs.Tables.{table_turn}
use Rattle.rbitcoin_net.proofs.fee_history.readers.put_rates.Goals as goal

pub loop-i-preserved : goal.loop-i-preserved
loop-i-preserved c =
    let v = c.loop-i.invariant in
    let f = rate_at c.args.held.numbers.now c.args.held.marks.now in
    let e = c.rate_of-rate.ensures in
    record {
      many = simp length-set v.many;
      long = simp length-set v.long;
      numbers = table_turn number_of f _ _ _ c.requires.fits.0 _ c.loop-i.i _ c.loop-i-test.true (rw c.unwrap_or.ensures (number_written c.rate_of-rate.result ∙ ap number_of e)) v.numbers;
      marks = table_turn mark_of f _ _ _ c.requires.fits.1 _ c.loop-i.i _ c.loop-i-test.true (rw c.is_some.ensures (mark_written c.rate_of-rate.result ∙ ap mark_of e)) v.marks;
      lent = search rules;
    }
