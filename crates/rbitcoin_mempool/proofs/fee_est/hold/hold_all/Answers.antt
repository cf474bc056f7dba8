-- `fee_est::hold::hold_all` meets its contract. The loop keeps `Holding`. Assumes nothing.
use Rattle.std.proofs.Common.{◌≡◌, ◌<◌, length, suc, arith, rules}
use Rattle.rbitcoin_mempool.specs.Rates.{given, rate_at}
use Rattle.rbitcoin_mempool.proofs.Passes.{hold-start, up_to, more, hold_write, hold_skip, hold_end, mark-at}
use Rattle.rbitcoin_mempool.proofs.fee_est.hold.hold_all.Goals as goal
use Rattle.rbitcoin_mempool.proofs.fee_est.hold.hold_all.Goals.{in-Some, in_default}

pub loop-i-init : goal.loop-i-init
loop-i-init c = record { holding = hold-start _ _ c.requires.numbers_len; same_lists = search rules }

pub loop-i-preserved : goal.loop-i-preserved
loop-i-preserved c =
    let ns = c.args.rates.now.numbers.now in
    let ms = c.args.rates.now.marks.now in
    let i = c.loop-i.i in
    let h = c.loop-i.invariant.holding in
    let l : i < length ns = omega (arith, h.numbers-length) in
    let m : given c.lesser_of-least.result ≡ up_to (rate_at ns ms) (suc i) = more ns ms _ _ _ i h l _ (rw (c.lesser_of-least.ensures, c.rate_at.ensures, c.as_marked.ensures.numbers, c.as_marked.ensures.marks)) in
    elim c.match-least.branch [
      | in-Some w ↦ record {
        holding = rw (w.rates-is, w.least-is) (hold_write ns ms _ _ _ i h l w.in-Some.x (rw w.in-Some.is at m));
        same_lists = rw w.rates-is c.loop-i.invariant.same_lists;
      }
      | in_default w ↦ record {
        holding = rw (w.rates-is, w.least-is, w.in_default.is) (hold_skip ns ms _ _ _ i h l (mark-at ms i c.requires.marks_value (omega (arith, h.numbers-length, c.requires.numbers_len))) (rw w.in_default.is at m));
        same_lists = rw w.rates-is c.loop-i.invariant.same_lists;
      }
    ]

pub returns-clause-numbers_after : goal.returns-clause-numbers_after
returns-clause-numbers_after c = (hold_end _ _ _ _ _ c.loop-i.i c.loop-i.invariant.holding (omega (arith, c.loop-i.invariant.holding.numbers-length))).0

pub returns-clause-marks_after : goal.returns-clause-marks_after
returns-clause-marks_after c = (hold_end _ _ _ _ _ c.loop-i.i c.loop-i.invariant.holding (omega (arith, c.loop-i.invariant.holding.numbers-length))).1
