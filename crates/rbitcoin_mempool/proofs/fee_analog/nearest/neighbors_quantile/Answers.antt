-- `fee_analog::nearest::neighbors_quantile` meets its contract. Assumes nothing.
use Rattle.std.proofs.Common.{ap, ◌∙◌}
use Rattle.rbitcoin_mempool.specs.Quantile.{quantile_of}
use Rattle.rbitcoin_mempool.proofs.Neighbors.{few, enough}
use Rattle.rbitcoin_mempool.proofs.fee_analog.nearest.neighbors_quantile.Goals as goal

pub returns-then-n-lt-ANALOG_MIN_NEIGHBORS : goal.returns-then-n-lt-ANALOG_MIN_NEIGHBORS
returns-then-n-lt-ANALOG_MIN_NEIGHBORS c =
    c.nearest_quantile.ensures
    ∙ ap (λ l. quantile_of l c.args.confidence) (few c.args.level _ _ c.collect_in_band-n.ensures.value c.if-n-lt-ANALOG_MIN_NEIGHBORS.true)

pub returns : goal.returns
returns c =
    c.quantile_of.ensures
    ∙ ap (λ l. quantile_of l c.args.confidence) (c.collect_in_band-n.ensures.out_after ∙ enough c.args.level _ _ c.collect_in_band-n.ensures.value c.if-n-lt-ANALOG_MIN_NEIGHBORS.false)
