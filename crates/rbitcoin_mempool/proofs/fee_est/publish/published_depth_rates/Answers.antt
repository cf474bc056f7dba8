-- `fee_est::publish::published_depth_rates` meets its contract. Assumes nothing.
use Rattle.std.proofs.Common.{sym}
use Rattle.rbitcoin_mempool.specs.Hold.{loop_numbers, loop_marks}
use Rattle.rbitcoin_mempool.proofs.Publishing.{agreed, aligned, valid, numbers-held, marks-held}
use Rattle.rbitcoin_mempool.proofs.fee_est.publish.published_depth_rates.Goals as goal

pub publish_all-requires : goal.publish_all-requires
publish_all-requires c =
    let g = agreed _ _ _ (sym c.in_ok-accept.ensures) in
    record { aligned = aligned c.args.lists.now _ _ (sym c.in_ok-accept.ensures); numbers_len = g.output; marks_len = g.output_marks }

pub hold_all-requires-clause-marks_value : goal.hold_all-requires-clause-marks_value
hold_all-requires-clause-marks_value c = valid _ _ _ c.publish_all.ensures.numbers_after c.publish_all.ensures.marks_after

pub returns-clause-numbers_after : goal.returns-clause-numbers_after
unfolding loop_numbers
returns-clause-numbers_after c = rw (← c.in_ok-accept.ensures) (numbers-held _ _ _ c.publish_all.ensures.numbers_after c.publish_all.ensures.marks_after _ c.hold_all.ensures.numbers_after)

pub returns-clause-marks_after : goal.returns-clause-marks_after
unfolding loop_marks
returns-clause-marks_after c = rw (← c.in_ok-accept.ensures) (marks-held _ _ _ c.publish_all.ensures.numbers_after c.publish_all.ensures.marks_after _ c.hold_all.ensures.marks_after)
