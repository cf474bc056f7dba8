-- `fee_est::target::Curve::look_up` meets its contract. Assumes nothing.
use Rattle.std.proofs.Common.{◌≤◌, length, arith, take_all, le-ltb, lt-ltb}
use Rattle.rbitcoin_mempool.specs.Rates.{rates_of}
use Rattle.rbitcoin_mempool.specs.Target.{at_target, fee_at_target}
use Rattle.rbitcoin_mempool.proofs.Passes.{reached-lt, rates-length}
use Rattle.rbitcoin_mempool.proofs.fee_est.target.Curve.look_up.Goals as goal

pub returns-then-target-self : goal.returns-then-target-self
unfolding fee_at_target at_target
returns-then-target-self c =
    let os = rates_of c.args.self.now.rates.numbers.now c.args.self.now.rates.marks.now in
    let e : length os ≤ length c.args.self.now.depths.now = omega (arith, rates-length c.args.self.now.rates.numbers.now c.args.self.now.rates.marks.now) in
    rw (lt-ltb _ _ c.if-target-self.true, c.last_there.ensures, take_all (length c.args.self.now.depths.now) os e)

pub at_index-requires : goal.at_index-requires
at_index-requires c = rw c.first_at.ensures (reached-lt c.args.self.now.depths.now c.args.target c.requires c.if-target-self.false)

pub returns : goal.returns
unfolding fee_at_target at_target
returns c = rw (le-ltb _ _ c.if-target-self.false, c.at_index.ensures, c.first_at.ensures)
