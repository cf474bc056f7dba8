-- `fee_analog::nearest::nearest_quantile` meets its contract. Assumes nothing.
use Rattle.std.proofs.Common.{◌≡◌, ℕ, List, length, take, ap, ◌∙◌, arith, length-take-le}
use Rattle.rbitcoin_mempool.specs.Nearest.{distances, nearest}
use Rattle.rbitcoin_mempool.specs.Quantile.{quantile_of}
use Rattle.rbitcoin_mempool.proofs.Neighbors.{front_of, nearest-paired}
use Rattle.rbitcoin_mempool.proofs.Cuts.{cut_at}
use Rattle.rbitcoin_mempool.proofs.fee_analog.nearest.nearest_quantile.Goals as goal

pub collect_nearest-requires : goal.collect_nearest-requires
collect_nearest-requires c =
    let logs = c.args.pairs.logs.now in
    let ds : List ℕ = take (length logs) c.fill_distances.new.out in
    let size : length ds ≡ length logs = length-take-le (length logs) c.fill_distances.new.out (omega (arith, c.fill_distances.auto.out)) in
    record {
      as_many = size ∙ c.args.pairs.paired;
      cut = cut_at 200 ds _ (omega arith) (omega arith) c.nth_smallest-cut.ensures;
    }

pub returns : goal.returns
returns c =
    let logs = c.args.pairs.logs.now in
    let outs = c.args.pairs.outcomes.now in
    let are : take (length logs) c.fill_distances.new.out ≡ distances c.args.level logs
    = front_of (distances c.args.level logs) c.args.scratch.now c.fill_distances.new.out (length logs) c.fill_distances.ensures c.fill_distances.auto.out c.requires.room in
    c.quantile_of.ensures
    ∙ ap (λ l. quantile_of l c.args.confidence)
    (c.collect_nearest.ensures ∙ ap (λ l. nearest 200 l outs) are ∙ nearest-paired c.args.level logs outs c.args.pairs.paired)
