-- `fee_analog::median::middle_of_three` meets its contract. Assumes nothing.
use Rattle.std.proofs.Common.{arith}
use Rattle.rbitcoin_mempool.proofs.Medians.{three}
use Rattle.rbitcoin_mempool.proofs.fee_analog.median.middle_of_three.Goals as goal

pub returns : goal.returns
returns c = let e = three c.args.a c.args.b c.args.c in omega arith
