-- `fee_est::hold::never_descends` meets its contract. Assumes nothing.
use Rattle.std.proofs.Common.{◌≡◌, suc, ◌+◌, ◌-◌, length, get_or, ap, ◌∙◌, arith}
use Rattle.std.specs.Slice.Iter.{windows_rest}
use Rattle.std.proofs.lemmas.Iterator.{window_more}
use Rattle.slices.specs.Every.{every}
use Rattle.rbitcoin_mempool.specs.Hold.{never_descends}
use Rattle.rbitcoin_mempool.proofs.fee_est.hold.never_descends.Goals as goal

pub loop-pair-preserved : goal.loop-pair-preserved
unfolding every
loop-pair-preserved c =
    let xs = c.args.depths.now in
    let inv = c.loop-pair.invariant in
    let i = length xs - length (windows_rest c.loop-pair.pair-iterator) in
    let h = window_more xs c.loop-pair.pair-iterator c.next.new.self _ _ c.in-Some.is c.next.ensures.steps (omega (arith, inv.size)) inv.within inv.end in
    let first : get_or c.in-Some.pair.now 0 0 ≡ get_or xs i 0 = h.3 0 0 (omega (arith, inv.size)) ∙ ap (λ n. get_or xs n 0) {x = i + 0} {y = i} (omega arith) in
    let second : get_or c.in-Some.pair.now 1 0 ≡ get_or xs (suc i) 0 = h.3 1 0 (omega (arith, inv.size)) ∙ ap (λ n. get_or xs n 0) {x = i + 1} {y = suc i} (omega arith) in
    let more : length xs - length (windows_rest c.next.new.self) ≡ suc i = omega (arith, h.0, inv.within) in
    record {
      size = c.next.ensures.steps.0 ∙ inv.size;
      within = omega (arith, h.0, inv.within);
      before = omega (arith, h.0, h.2, inv.size, inv.within);
      end = h.1;
      kept = rw (more, first, second, inv.kept);
    }

pub returns : goal.returns
unfolding never_descends
returns c =
    let inv = c.loop-pair.invariant in
    let e : length c.args.depths.now - 1 ≡ length c.args.depths.now - length (windows_rest c.loop-pair.pair-iterator) = omega (arith, inv.size, inv.within, inv.before, c.in-None.ensures.steps.1.0) in
    rw e inv.kept
