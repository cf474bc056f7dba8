-- `fee_est::publish::DepthLists::published_at` meets its contract. Assumes nothing.
use Rattle.rbitcoin_mempool.specs.Hold.{published_at}
use Rattle.rbitcoin_mempool.proofs.fee_est.publish.DepthLists.published_at.Goals as goal

pub returns : goal.returns
unfolding published_at
returns c = rw (c.published_depth_rate.ensures.result_value, c.flow_for_depth-flow.ensures, c.rate_of-projected.ensures, c.rate_of-frontier.ensures, c.rate_of-history.ensures)
