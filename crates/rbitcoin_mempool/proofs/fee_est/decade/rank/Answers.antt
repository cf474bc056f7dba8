-- `fee_est::decade::rank` meets its contract: the rank grows by each of the five. Assumes nothing.
use Rattle.std.proofs.Common.{◌≡◌, ◌+◌, arith}
use Rattle.rbitcoin_mempool.proofs.Decade.{rank-start, rank-more, rank_end}
use Rattle.rbitcoin_mempool.proofs.fee_est.decade.rank.Goals as goal

pub loop-edge-init : goal.loop-edge-init
loop-edge-init c =
    let a = c.five_from-first.result.0 in
    let e : a + 0 ≡ a = omega arith in
    rw e (rank-start _ a c.args.y _ c.five_from-first.ensures c.eighth_of.ensures.2)

pub loop-edge-preserved : goal.loop-edge-preserved
loop-edge-preserved c =
    rank-more _ c.five_from-first.result.0 c.args.y _ c.five_from-first.ensures c.loop-edge.edge-index _ _ (omega arith) c.passed-rank.ensures.0 c.loop-edge.invariant

pub returns : goal.returns
returns c =
    let e : c.loop-edge.edge-index ≡ 5 = omega arith in
    rank_end _ c.five_from-first.result.0 c.args.y _ c.five_from-first.ensures _ c.eighth_of.ensures.3 (rw e at c.loop-edge.invariant)
