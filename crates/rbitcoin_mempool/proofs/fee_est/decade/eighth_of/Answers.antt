-- `fee_est::decade::eighth_of` meets its contract. Assumes nothing.
use Rattle.std.proofs.Common.{arith}
use Rattle.rbitcoin_mempool.proofs.Decade.{leads}
use Rattle.rbitcoin_mempool.proofs.fee_est.decade.eighth_of.Goals as goal

pub overflow_sub-result : goal.overflow_sub-result
overflow_sub-result c = omega (arith, (leads c.args.y c.requires.0 c.requires.1).few)

pub overflow_sub-result-2 : goal.overflow_sub-result-2
overflow_sub-result-2 c = (leads c.args.y c.requires.0 c.requires.1).few

pub returns : goal.returns
returns c = let e = (leads c.args.y c.requires.0 c.requires.1).eighth in (e.first, e.last, e.from, e.to)
