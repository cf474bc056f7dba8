-- `fee_flow::Lapse::decay` meets its contract. The first rates are decayed. Assumes nothing.
use Rattle.std.proofs.Common.{◌≡◌, ◌<◌, length, get_or, set, ap, ◌∙◌, arith}
use lib.Ieee.{Float, nan, binary64, mul}
use Rattle.rbitcoin_mempool.specs.Meter.{decayed}
use Rattle.rbitcoin_mempool.proofs.Maps.{filled_at, filled_more}
use Rattle.rbitcoin_mempool.proofs.Meter.{decayed-by}
use Rattle.rbitcoin_mempool.proofs.fee_flow.Lapse.decay.Goals as goal

pub loop-rate-preserved : goal.loop-rate-preserved
loop-rate-preserved c =
    let g = decayed c.args.self.secs in
    let xs = c.args.rates.now in
    let i = c.loop-rate.rate-index in
    let r : i < length xs = omega (arith, c.requires) in
    let x : get_or c.loop-rate.rates i nan ≡ get_or xs i nan = rw c.loop-rate.invariant (filled_at g xs xs i r r nan) in
    let y : mul binary64 (get_or c.loop-rate.rates i nan) c.args.self.share ≡ g (get_or xs i nan) = rw (x, c.args.self.left) (decayed-by c.args.self.secs (get_or xs i nan) c.args.self.above) in
    ap (λ (v : Float). set c.loop-rate.rates i v) y ∙ rw c.loop-rate.invariant (filled_more g xs xs i r r nan nan)
