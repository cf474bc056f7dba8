-- `fee_flow::flow_full_wu` meets its contract: the constant's bits are what the Rust's expression gives. Assumes nothing.
use Rattle.std.proofs.Common.{refl}
use lib.Ieee.{mul, div, of_bits, of_int, round}
use Rattle.rbitcoin_mempool.specs.Meter.{flow_full_wu}
use Rattle.rbitcoin_mempool.proofs.fee_flow.flow_full_wu.Goals as goal

pub returns : goal.returns
unfolding flow_full_wu of_bits of_int mul div round
returns c = refl
