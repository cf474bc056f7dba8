-- `fee_flow::Lapse::total` meets its contract. Assumes nothing.
use Rattle.rbitcoin_mempool.proofs.Meter.{decayed-by}
use Rattle.rbitcoin_mempool.proofs.fee_flow.Lapse.total.Goals as goal

pub returns : goal.returns
returns c = rw c.args.self.left (decayed-by c.args.self.secs c.args.total c.args.self.above)
