-- `fee_analog::quantile::blend` meets its contract. Assumes nothing.
use Rattle.rbitcoin_mempool.specs.Quantile.{blend_of}
use Rattle.rbitcoin_mempool.proofs.fee_analog.quantile.blend.Goals as goal

pub returns : goal.returns
unfolding blend_of
returns c = cc
