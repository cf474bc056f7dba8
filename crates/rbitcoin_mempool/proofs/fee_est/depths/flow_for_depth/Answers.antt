-- `fee_est::depths::flow_for_depth` meets its contract. Assumes nothing.
use lib.Ieee.{of_bits}
use Rattle.rbitcoin_mempool.specs.Rates.{given}
use Rattle.rbitcoin_mempool.proofs.DepthCases.{no-frontier}
use Rattle.rbitcoin_mempool.proofs.fee_est.depths.flow_for_depth.Goals as goal

pub returns-in-None : goal.returns-in-None
unfolding of_bits
returns-in-None c =
    rw (c.in-None.is, no-frontier (given c.args.projected) c.args.n_blocks, ← c.blend_weight.ensures.value, c.if-blend_weight.true)

pub returns-in-None-2 : goal.returns-in-None-2
unfolding of_bits
returns-in-None-2 c =
    rw (c.in-None-2.is, no-frontier (given c.args.projected) c.args.n_blocks, ← c.blend_weight.ensures.value, c.if-blend_weight.false)
