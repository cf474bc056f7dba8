-- `fee_est::depths::blend_weight` meets its contract. Assumes nothing.
use Rattle.std.proofs.Common.{◌≡◌, sym, subst, arith}
use lib.Ieee.{of_bits}
use Rattle.rbitcoin_mempool.specs.Depths.{blend_weight}
use Rattle.rbitcoin_mempool.specs.Exact.{InUnit}
use Rattle.rbitcoin_mempool.proofs.Units.{weight_in}
use Rattle.rbitcoin_mempool.proofs.fee_est.depths.blend_weight.Goals as goal

pub returns : goal.returns
unfolding blend_weight of_bits
returns c =
    let e : c.exp.result ≡ blend_weight c.args.n_blocks = rw (c.exp.ensures, c.as_float-n.ensures, c.max.ensures) in
    record { value = e; in_unit = subst InUnit (sym e) (weight_in c.args.n_blocks (omega arith)) }
