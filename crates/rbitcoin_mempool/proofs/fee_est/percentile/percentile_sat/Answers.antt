-- `fee_est::percentile::percentile_sat` meets its contract. Assumes nothing.
use Rattle.rbitcoin_mempool.proofs.Percentile.{percentile-none, percentile-some}
use Rattle.rbitcoin_mempool.proofs.fee_est.percentile.percentile_sat.Goals as goal

pub returns-then-n-eq0 : goal.returns-then-n-eq0
returns-then-n-eq0 c = percentile-none c.args.v.now c.args.pct c.if-n-eq0.true

pub returns : goal.returns
returns c = rw (c.nth_smallest.ensures, c.saturating_mul-i.ensures, c.min-share.ensures, c.from.ensures) (percentile-some c.args.v.now c.args.pct c.if-n-eq0.false)
