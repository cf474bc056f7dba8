-- `fee_est::edges::flow_bucket_edges` meets its contract: the constant is the table that proofs/Edges.antt tests. Assumes nothing.
use Rattle.rbitcoin_mempool.proofs.Edges.{edges, listed}
use Rattle.rbitcoin_mempool.proofs.fee_est.edges.flow_bucket_edges.Goals as goal

pub returns : goal.returns
unfolding edges
returns c = listed
