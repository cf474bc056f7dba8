-- `fee_flow::FeeFlowMeter::decay_to` meets its contract. Assumes nothing.
use Rattle.rbitcoin_mempool.proofs.Meter.{decay-none}
use Rattle.rbitcoin_mempool.proofs.fee_flow.FeeFlowMeter.decay_to.Goals as goal

pub returns-in_default : goal.returns-in_default
returns-in_default c = decay-none c.args.self c.args.now c.in_default.ensures
