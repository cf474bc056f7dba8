-- The definitions of a depth's rate where one side is missing, whatever the other. Assumes nothing.
use Rattle.std.proofs.Common.{◌≡◌, ℕ, cond, refl}
use mathlib.Core.Option.{Option, none, some}
use lib.Ieee.{le}
use Rattle.rbitcoin_mempool.specs.Depths.{half64, blend_weight, flow_for_depth}

pub no-frontier : (p : Option ℕ) (n : ℕ) → flow_for_depth p none n ≡ cond (le half64 (blend_weight n)) p none
unfolding flow_for_depth
no-frontier none n = refl
no-frontier (some p) n = refl
