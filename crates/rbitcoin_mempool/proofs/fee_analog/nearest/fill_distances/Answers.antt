-- `fee_analog::nearest::fill_distances` meets its contract. The loop's invariant: the first i places hold the first i distances, the rest is as it was. Assumes nothing.
use Rattle.std.proofs.Common.{arith}
use Rattle.rbitcoin_mempool.proofs.Neighbors.{fill_start, fill-next, fill_end}
use Rattle.rbitcoin_mempool.proofs.fee_analog.nearest.fill_distances.Goals as goal

pub loop-i-init : goal.loop-i-init
loop-i-init c = fill_start _ _ _

pub loop-i-preserved : goal.loop-i-preserved
loop-i-preserved c = fill-next _ _ _ _ _ c.loop-i.invariant c.requires (omega arith) _ _ c.abs_bits.ensures

pub returns : goal.returns
returns c = fill_end _ _ _ _ _ c.loop-i.invariant c.requires (omega arith)
