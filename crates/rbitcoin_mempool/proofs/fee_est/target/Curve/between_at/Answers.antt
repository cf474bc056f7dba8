-- `fee_est::target::Curve::between_at` meets its contract. Assumes nothing.
use Rattle.std.proofs.Common.{◌-◌, arith}
use Rattle.rbitcoin_mempool.proofs.Passes.{rates-at}
use Rattle.rbitcoin_mempool.proofs.fee_est.target.Curve.between_at.Goals as goal

pub returns-in-Some-rate_at : goal.returns-in-Some-rate_at
returns-in-Some-rate_at c =
    let r = rates-at c.args.self.now.rates.numbers.now c.args.self.now.rates.marks.now in
    rw (r (c.args.i - 1) (omega arith), r c.args.i (omega arith), ← c.in-Some.ensures, ← c.in-Some-rate_at.ensures, c.lerp_sat_kvb-quote.ensures)

pub returns-in-None-rate_at : goal.returns-in-None-rate_at
returns-in-None-rate_at c =
    let r = rates-at c.args.self.now.rates.numbers.now c.args.self.now.rates.marks.now in
    rw (r (c.args.i - 1) (omega arith), r c.args.i (omega arith), ← c.in-Some.ensures, ← c.in-None-rate_at.ensures)

pub returns-in-None : goal.returns-in-None
returns-in-None c =
    let r = rates-at c.args.self.now.rates.numbers.now c.args.self.now.rates.marks.now in
    rw (r (c.args.i - 1) (omega arith), ← c.in-None.ensures) c.last_there.ensures
