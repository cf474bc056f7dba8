-- `fee_est::target::Curve::first_at` meets its contract. Assumes nothing.
use Rattle.std.proofs.Common.{◌∙◌, length, arith}
use Rattle.slices.proofs.Bisect.{bisect_seeks, lower_bound_is}
use Rattle.rbitcoin_mempool.proofs.Passes.{reached-stays}
use Rattle.rbitcoin_mempool.proofs.fee_est.target.Curve.first_at.Goals as goal

pub returns : goal.returns
returns c =
    let curve = c.args.self.now in
    c.lower_bound.ensures.value
    ∙ lower_bound_is curve.depths.now 0 (length curve.depths.now) c.args.target (omega arith)
    ∙ bisect_seeks curve.depths.now c.args.target (reached-stays curve.depths.now c.args.target curve.ascends)
