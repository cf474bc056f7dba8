-- `fee_est::decade::first_above` meets its contract. Assumes nothing.
use Rattle.rbitcoin_mempool.proofs.Decade.{above-none, above_all, above_ranked}
use Rattle.rbitcoin_mempool.proofs.fee_est.decade.first_above.Goals as goal

pub returns-then-rate-lt100 : goal.returns-then-rate-lt100
returns-then-rate-lt100 c = above-none c.args.rate c.if-rate-lt100.true

pub returns-then-rate-ge1000000 : goal.returns-then-rate-ge1000000
returns-then-rate-ge1000000 c = above_all c.args.rate c.if-rate-ge1000000.true

pub returns : goal.returns
returns c =
    above_ranked c.args.rate c.decade_of-d.result c.rank.result c.decade_of-d.ensures (rw c.half_unit.ensures at c.rank.ensures)
