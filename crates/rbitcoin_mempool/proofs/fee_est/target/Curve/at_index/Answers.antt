-- `fee_est::target::Curve::at_index` meets its contract. Assumes nothing.
use Rattle.std.proofs.Common.{arith, eq-eqb}
use Rattle.rbitcoin_mempool.specs.Target.{at_index}
use Rattle.rbitcoin_mempool.proofs.Passes.{rates-at}
use Rattle.rbitcoin_mempool.proofs.fee_est.target.Curve.at_index.Goals as goal

pub returns-then-self-i : goal.returns-then-self-i
unfolding at_index
returns-then-self-i c =
    rw (eq-eqb _ _ c.if-self-i.true, rates-at c.args.self.now.rates.numbers.now c.args.self.now.rates.marks.now c.args.i (omega arith)) c.rate_at.ensures
