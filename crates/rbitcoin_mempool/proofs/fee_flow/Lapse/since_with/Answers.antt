-- `fee_flow::Lapse::since_with` meets its contract. Assumes nothing.
use lib.Ieee.{of_bits, round}
use Rattle.rbitcoin_mempool.proofs.Meter.{same-share, above-least}
use Rattle.rbitcoin_mempool.proofs.fee_flow.Lapse.since_with.Goals as goal

pub invariant_of-result : goal.invariant_of-result
unfolding of_bits round
invariant_of-result c =
    let e = same-share c.args.last c.args.last_admit c.args.now c.args.dt c.args.share c.secs_between-secs.result c.requires.0 c.requires.1 c.secs_between-secs.ensures c.if-last-last_admit.true c.if-secs.true in
    record { above = above-least c.secs_between-secs.result c.if-secs.true; left = rw c.secs_between-secs.ensures e }
