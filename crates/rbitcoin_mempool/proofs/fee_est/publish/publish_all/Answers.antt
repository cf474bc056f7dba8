-- `fee_est::publish::publish_all` meets its contract. The loop keeps `Writing`. Assumes nothing.
use Rattle.std.proofs.Common.{◌∙◌, ap, arith, rules}
use Rattle.rbitcoin_mempool.specs.Rates.{number_of, mark_of}
use Rattle.rbitcoin_mempool.proofs.RateLists.{number_written, mark_written}
use Rattle.rbitcoin_mempool.proofs.Publishing.{write-start, write_step, write_end}
use Rattle.rbitcoin_mempool.proofs.fee_est.publish.publish_all.Goals as goal

pub loop-i-init : goal.loop-i-init
loop-i-init c = record { writing = write-start _ _ _ _ c.requires.numbers_len c.requires.marks_len; same_lists = search rules }

pub loop-i-preserved : goal.loop-i-preserved
loop-i-preserved c = record {
  writing =
      write_step _ _ _ _ c.loop-i.i _ _ (omega arith) c.loop-i.invariant.writing
      (rw c.unwrap_or.ensures (number_written c.published_at-rate.result ∙ ap number_of c.published_at-rate.ensures))
      (rw c.is_some.ensures (mark_written c.published_at-rate.result ∙ ap mark_of c.published_at-rate.ensures));
  same_lists = search rules;
}

pub returns-clause-numbers_after : goal.returns-clause-numbers_after
returns-clause-numbers_after c = (write_end _ _ _ _ c.loop-i.i c.loop-i.invariant.writing (omega arith)).0

pub returns-clause-marks_after : goal.returns-clause-marks_after
returns-clause-marks_after c = (write_end _ _ _ _ c.loop-i.i c.loop-i.invariant.writing (omega arith)).1
