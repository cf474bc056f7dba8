-- `fee_analog::quantile::quantile_of` meets its contract. Assumes nothing.
use Rattle.rbitcoin_mempool.proofs.Quantiles.{quantile-by, repeated}
use Rattle.rbitcoin_mempool.proofs.fee_analog.quantile.quantile_of.Goals as goal

pub returns-then-upper-count_at_most : goal.returns-then-upper-count_at_most
returns-then-upper-count_at_most c =
    quantile-by c.args.confidence c.args.xs.now c.rank_of-rank.result _ _ _ _ _
    c.rank_of-rank.ensures
    c.places_around-lower.ensures.0
    c.places_around-lower.ensures.1
    c.nth_smallest-a.ensures
    (repeated _ _ c.args.xs.now _ _ c.nth_smallest-a.ensures c.count_at_most.ensures c.if-lower-upper.true c.if-upper-count_at_most.true)
    c.between_neighbors.ensures

pub returns : goal.returns
returns c =
    quantile-by c.args.confidence c.args.xs.now c.rank_of-rank.result _ _ _ _ _
    c.rank_of-rank.ensures
    c.places_around-lower.ensures.0
    c.places_around-lower.ensures.1
    c.nth_smallest-a.ensures
    c.nth_smallest-b.ensures
    c.between_neighbors-2.ensures
