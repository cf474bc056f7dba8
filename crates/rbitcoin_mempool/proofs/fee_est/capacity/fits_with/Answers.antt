-- `fee_est::capacity::fits_with` meets its contract. Assumes nothing.
use Rattle.std.proofs.Common.{arith}
use Rattle.rbitcoin_mempool.proofs.Edges.{first_bucket-lt}
use Rattle.rbitcoin_mempool.proofs.fee_est.capacity.fits_with.Goals as goal

pub offset_bounds-suffix-i : goal.offset_bounds-suffix-i
offset_bounds-suffix-i c = omega (arith, c.first_bucket_above-i.ensures, first_bucket-lt c.args.candidate)

pub bounds-suffix-i : goal.bounds-suffix-i
bounds-suffix-i c = omega (arith, c.first_bucket_above-i.ensures, first_bucket-lt c.args.candidate)
