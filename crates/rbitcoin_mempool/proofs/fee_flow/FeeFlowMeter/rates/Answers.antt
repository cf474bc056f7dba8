-- `fee_flow::FeeFlowMeter::rates` meets its contract. The loop's invariant: the first i rates are whole numbers in the result. Assumes nothing.
use Rattle.std.proofs.Common.{◌≡◌, ℕ, ◌<◌, ◌≤◌, length, get_or, refl, ap, ◌∙◌, arith, rules}
use lib.ListN.{length-replicate}
use lib.Ieee.{nan, of_bits, of_int}
use Rattle.num.specs.Round.{round_to_u64}
use Rattle.rbitcoin_mempool.specs.Meter.{whole_rate, rates}
use Rattle.rbitcoin_mempool.proofs.Maps.{filled_more, filled_all}
use Rattle.rbitcoin_mempool.proofs.fee_flow.FeeFlowMeter.rates.Invariants.{zeros}
use Rattle.rbitcoin_mempool.proofs.fee_flow.FeeFlowMeter.rates.Goals as goal

zeros-long : length zeros ≡ 402
unfolding zeros
zeros-long = length-replicate {A = ℕ} 402 0

pub loop-i-init : goal.loop-i-init
unfolding zeros
loop-i-init c = refl

pub loop-i-preserved : goal.loop-i-preserved
unfolding whole_rate of_bits of_int
loop-i-preserved c =
    let xs = c.args.self.admit_wu_s in
    let h : c.loop-i.i < length xs = omega arith in
    let k : c.loop-i.i < length zeros = omega (arith, zeros-long) in
    let e : c.round_to_u64.result ≡ whole_rate (get_or xs c.loop-i.i nan) = c.round_to_u64.ensures ∙ ap round_to_u64 c.max.ensures in
    rw (e, c.loop-i.invariant) (filled_more whole_rate xs zeros c.loop-i.i h k nan 0)

pub returns : goal.returns
unfolding rates
returns c =
    let xs = c.args.self.admit_wu_s in
    let h : length xs ≤ c.loop-i.i = search rules in
    let k : length zeros ≤ c.loop-i.i = omega (arith, zeros-long) in
    c.loop-i.invariant ∙ filled_all whole_rate xs zeros c.loop-i.i h k
