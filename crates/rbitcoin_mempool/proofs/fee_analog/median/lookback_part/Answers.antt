-- `fee_analog::median::lookback_part` meets its contract. Assumes nothing.
use Rattle.std.proofs.Common.{arith}
use Rattle.rbitcoin_mempool.proofs.Medians.{lookback-is}
use Rattle.rbitcoin_mempool.proofs.fee_analog.median.lookback_part.Goals as goal

pub returns : goal.returns
returns c = lookback-is c.args.hurdles.now c.args.t c.args.n _ _ (omega arith) (omega arith)
