-- `fee_analog::quantile::rank_of` meets its contract. Assumes nothing.
use Rattle.rbitcoin_mempool.specs.Quantile.{rank_of}
use Rattle.rbitcoin_mempool.proofs.fee_analog.quantile.rank_of.Goals as goal

pub returns : goal.returns
unfolding rank_of
returns c = rw (← c.from_u64-m.ensures) c.clamp.ensures
