-- `fee_analog::nearest::collect_in_band` meets its contract. The loop's invariant is `Gathering` of proofs/Neighbors.antt. Assumes nothing.
use Rattle.std.proofs.Common.{◌≡◌, length, sym, ◌∙◌, arith}
use Rattle.rbitcoin_mempool.specs.Nearest.{band}
use Rattle.rbitcoin_mempool.proofs.Neighbors.{gather_room, gather_start, gather_in, gather-past, gather_end, gather-count, within-band}
use Rattle.rbitcoin_mempool.proofs.fee_analog.nearest.collect_in_band.Goals as goal

pub loop-log-init : goal.loop-log-init
loop-log-init c = gather_start _ _ _ _ _ _ (cc) (cc) c.args.pairs.paired c.requires

pub offset_bounds-out-n : goal.offset_bounds-out-n
offset_bounds-out-n c =
    omega (arith, gather_room c.loop-log.invariant c.in-Some.ensures.steps.0 c.in-Some.ensures.steps.1)

pub bounds-out-n : goal.bounds-out-n
bounds-out-n c = gather_room c.loop-log.invariant c.in-Some.ensures.steps.0 c.in-Some.ensures.steps.1

pub loop-log-preserved-then-is_within : goal.loop-log-preserved-then-is_within
unfolding band
loop-log-preserved-then-is_within c =
    let e = c.is_within.ensures ∙ within-band c.args.level _ _ c.ln_1_25-limit.ensures in
    gather_in c.loop-log.invariant c.in-Some.ensures.steps.0 c.in-Some.ensures.steps.1 (sym e ∙ c.if-is_within.true)

pub loop-log-preserved : goal.loop-log-preserved
unfolding band
loop-log-preserved c =
    let e = c.is_within.ensures ∙ within-band c.args.level _ _ c.ln_1_25-limit.ensures in
    gather-past c.loop-log.invariant c.in-Some.ensures.steps.0 c.in-Some.ensures.steps.1 (sym e ∙ c.if-is_within.false)

pub returns : goal.returns
returns c =
    let none : length c.loop-log.log-iterator.a.rest.now ≡ 0 = grind arith in
    record {
      value = gather-count _ c.loop-log.invariant none;
      out_after = gather_end _ c.loop-log.invariant none;
    }
