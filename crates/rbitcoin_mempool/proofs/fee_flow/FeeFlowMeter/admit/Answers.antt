-- `fee_flow::FeeFlowMeter::admit` meets its contract. Assumes nothing.
use Rattle.std.proofs.Common.{◌≡◌, ◌<◌, ◌∙◌, arith}
use lib.Ieee.{of_bits, of_int, round}
use Rattle.rbitcoin_mempool.specs.Meter.{decay_to, admitted, note_admit}
use Rattle.rbitcoin_mempool.proofs.Meter.{bucket-lt, decay-none, decay-some}
use Rattle.rbitcoin_mempool.proofs.fee_flow.FeeFlowMeter.admit.Goals as goal
use Rattle.rbitcoin_mempool.proofs.fee_flow.FeeFlowMeter.admit.Goals.{in-Some, in_default}

pub since_with-requires : goal.since_with-requires
unfolding of_bits round
since_with-requires c =
    (rw c.secs_between.ensures at c.max-dt.ensures, c.share_left-kept_dt.ensures)

pub offset_bounds-m-i : goal.offset_bounds-m-i
offset_bounds-m-i c =
    let place : c.bucket_index-i.result < 402 = rw c.bucket_index-i.ensures (bucket-lt c.args.rate_sat_per_kvb) in
    omega arith

pub bounds-m-i : goal.bounds-m-i
bounds-m-i c = rw c.bucket_index-i.ensures (bucket-lt c.args.rate_sat_per_kvb)

pub bounds-m-i-2 : goal.bounds-m-i-2
bounds-m-i-2 c = rw c.bucket_index-i.ensures (bucket-lt c.args.rate_sat_per_kvb)

pub returns : goal.returns
unfolding note_admit admitted of_bits of_int round
returns c =
    let e : c.match-since_with.m ≡ decay_to c.args.self c.args.now =
    elim c.match-since_with.branch [
      | in-Some w ↦ w.m-is ∙ rw (w.decay.ensures, w.total.ensures) (decay-some c.args.self c.args.now w.in-Some.lapse.secs w.in-Some.ensures w.in-Some.lapse.above)
      | in_default w ↦ w.m-is ∙ decay-none c.args.self c.args.now w.in_default.ensures
    ] in
    rw (e, c.bucket_index-i.ensures, c.share_left-kept_dt.ensures, c.max-dt.ensures, c.secs_between.ensures, c.from_u64-weight.ensures)
