-- The rate of one depth, after fee_est.rs: weights and blends in binary64, in the Rust's grouping. Definitions only.
use Rattle.std.specs.Prelude.{ℕ, max, Bool, false, cond, ◌&&◌, pos, negsuc, nat_le, Float}
use Rattle.std.proofs.Math.Option.{Option, none, some}
use Rattle.std.specs.Float.{fin, binary64}
use Rattle.std.specs.Float.Ieee.{neg, add, sub, mul, div, lt, le}
use Rattle.num.specs.Exp.{exp_of}
use Rattle.num.specs.Float.{of_u64, is_finite, clamp_of}
use Rattle.num.specs.Round.{round_to_u64}

abbrev pub zero64 : Float
zero64 = fin false 0 (pos 0)

abbrev pub half64 : Float
half64 = fin false 1 (negsuc 0)

abbrev pub one64 : Float
one64 = fin false 1 (pos 0)

abbrev pub six64 : Float
six64 = fin false 3 (pos 1)

-- `blend_weight`: exp(-(n - 1) / 6), n at least 1
unfoldable pub blend_weight : ℕ → Float
blend_weight n = exp_of (div binary64 (neg (sub binary64 (of_u64 (max n 1)) one64)) six64)

-- `flow_for_depth`: the greater of projected and frontier; a projected rate alone counts where the weight is at least a half
unfoldable pub flow_for_depth : Option ℕ → Option ℕ → ℕ → Option ℕ
flow_for_depth (some p) (some f) n = some (max p f)
flow_for_depth none (some f) n = some f
flow_for_depth p none n = cond (le half64 (blend_weight n)) p none

-- the blend of two numbers by a weight v: v·a + (1-v)·b, and the same with the terms in the other order
unfoldable pub blended : Float → ℕ → ℕ → ℕ
blended v a b = round_to_u64 (add binary64 (mul binary64 v (of_u64 a)) (mul binary64 (sub binary64 one64 v) (of_u64 b)))

unfoldable pub warmed : Float → ℕ → ℕ → ℕ
warmed v b a = round_to_u64 (add binary64 (mul binary64 (sub binary64 one64 v) (of_u64 b)) (mul binary64 v (of_u64 a)))

-- the first of two rates that is there
abbrev pub or : Option ℕ → Option ℕ → Option ℕ
or (some a) b = some a
or none b = b

-- the greater of two rates, or the one that is there
abbrev pub greater : Option ℕ → Option ℕ → Option ℕ
greater (some a) (some b) = some (max a b)
greater (some a) none = some a
greater none b = b

-- `blend_sat_kvb`
unfoldable pub blend_sat_kvb : Option ℕ → Option ℕ → ℕ → Option ℕ
blend_sat_kvb (some f) (some h) n = some (blended (blend_weight n) f h)
blend_sat_kvb (some f) none n = some f
blend_sat_kvb none h n = h

-- the warm-up share, clamped to 0..1; 0 where it is not finite
unfoldable pub clamped_share : Float → Float
clamped_share alpha = cond (is_finite alpha) (clamp_of alpha zero64 one64) zero64

-- `warmup_blend` of a clamped share: '(1-α)·cold + α·warm'; warm alone answers at 1 only
unfoldable pub blend_by : Float → Option ℕ → Option ℕ → Option ℕ
blend_by a (some c) (some w) = some (warmed a c w)
blend_by a none (some w) = cond (le one64 a) (some w) none
blend_by a c none = c

unfoldable pub warmup_blend : Float → Option ℕ → Option ℕ → Option ℕ
warmup_blend alpha cold warm = blend_by (clamped_share alpha) cold warm

-- `depth_rate_sat_kvb` while flow is cold: history, which the frontier may only raise
unfoldable pub cold_rate : Option ℕ → Option ℕ → Option ℕ
cold_rate frontier (some h) = greater (some h) frontier
cold_rate frontier none = none

-- `depth_rate_sat_kvb` once flow is warm: flow, or else history, up to one block; farther out their blend
unfoldable pub warm_rate : ℕ → Option ℕ → Option ℕ → Option ℕ
warm_rate n flow hist = cond (nat_le n 1) (or flow hist) (blend_sat_kvb flow hist n)

unfoldable pub depth_rate_sat_kvb : ℕ → Bool → Option ℕ → Option ℕ → Option ℕ → Option ℕ
depth_rate_sat_kvb n warm flow frontier hist = cond warm (warm_rate n flow hist) (cold_rate frontier hist)

-- whether the confirm floor counts: up to one block, by a share that is finite and above 0 before it is clamped
unfoldable pub floored : ℕ → Float → Bool
floored n alpha = nat_le n 1 && (is_finite alpha && lt zero64 alpha)

-- `published_depth_rate`
unfoldable pub published_depth_rate : ℕ → Float → Option ℕ → Option ℕ → Option ℕ → Option ℕ → Option ℕ
published_depth_rate n alpha flow frontier hist confirm =
    warmup_blend alpha (cold_rate frontier hist) (cond (floored n alpha) (greater (warm_rate n flow hist) confirm) (warm_rate n flow hist))
