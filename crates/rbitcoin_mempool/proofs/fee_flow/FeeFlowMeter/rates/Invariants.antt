-- `fee_flow::FeeFlowMeter::rates` meets its contract. The loop's invariant: the first i rates are whole numbers in the result. Assumes nothing.
use Rattle.std.proofs.Common.{◌≡◌, ℕ, List, replicate}
use Rattle.rbitcoin_mempool.specs.Meter.{whole_rate}
use Rattle.rbitcoin_mempool.proofs.Maps.{filled}
use Rattle.rbitcoin_mempool.proofs.fee_flow.FeeFlowMeter.rates.Given as goal

-- what the result is made with
unfoldable pub zeros : List ℕ
zeros = replicate 402 0

abbrev pub invariant-loop-i : goal.invariant-loop-i
invariant-loop-i l = l.rates ≡ filled whole_rate l.self.admit_wu_s zeros l.i
