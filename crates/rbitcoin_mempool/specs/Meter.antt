-- The fee flow meter, after fee_flow.rs. Definitions only.
use Rattle.std.specs.Prelude.{ℕ, ◌-◌, ◌/◌, ◌%◌, false, cond, List, map, replicate, from_bits, slice_index_or, slice_set, Float}
use Rattle.std.specs.Float.{nan, binary64}
use Rattle.std.specs.Float.Ieee.{round, add, sub, mul, div, neg, le}
use Rattle.num.specs.Float.{of_u64, max_of, clamp_of}
use Rattle.num.specs.Round.{round_to_u64}
use Rattle.num.specs.Exp.{exp_of}
use Rattle.rbitcoin_mempool.specs.Edges.{bucket_index}
use Rattle.rbitcoin_mempool.specs.declared.fee_flow.FeeFlowMeter.{FeeFlowMeter}

-- `ADMIT_HALF_LIFE_SECS`, and `std::f64::consts::LN_2`
abbrev pub half_life_secs : Float
half_life_secs = of_u64 150

abbrev pub ln2 : Float
ln2 = from_bits binary64 0x3FE6_2E42_FEFA_39EF

-- `flow_full_wu`: `(BLOCK_WEIGHT_WU as f64 / SECONDS_PER_BLOCK as f64) * (ADMIT_HALF_LIFE_SECS / LN_2)`
unfoldable pub flow_full_wu : Float
flow_full_wu = mul binary64 (div binary64 (of_u64 4000000) (of_u64 600)) (div binary64 half_life_secs ln2)

-- 'a gap is whole seconds plus nanoseconds / 1e9, and 0 if the clock went back'
unfoldable pub gap : ℕ → ℕ → Float
gap from to = let ns = to - from in add binary64 (of_u64 (ns / 1000000000)) (div binary64 (of_u64 (ns % 1000000000)) (of_u64 1000000000))

-- `(-LN_2 * dt / ADMIT_HALF_LIFE_SECS).exp()`, by the stand-in
unfoldable pub share_left : Float → Float
share_left dt = exp_of (div binary64 (mul binary64 (neg ln2) dt) half_life_secs)

-- `1e-3`, the least time in seconds that a sample is taken over
abbrev pub least_secs : Float
least_secs = round binary64 false 1 1000

-- a rate or a total after a time: as it was unless the time is above 0
unfoldable pub decayed : Float → Float → Float
decayed dt x = cond (le dt (of_u64 0)) x (mul binary64 x (share_left dt))

-- `new`
abbrev pub new_meter : ℕ → FeeFlowMeter
new_meter now = record { admit_wu_s = replicate 402 (of_u64 0); admitted_wu = of_u64 0; last = now; last_admit = now }

-- `decay_to`: 'A read decays the meter in place and moves its decay clock'; nothing changes unless the time is above 0
unfoldable pub decay_to : FeeFlowMeter → ℕ → FeeFlowMeter
decay_to m now =
    let dt = gap m.last now in
    record {
      admit_wu_s = map (decayed dt) m.admit_wu_s;
      admitted_wu = decayed dt m.admitted_wu;
      last = cond (le dt (of_u64 0)) m.last now;
      last_admit = m.last_admit;
    }

-- `(self.admitted_wu / full).clamp(0.0, 1.0)`
unfoldable pub full : FeeFlowMeter → Float
full m = clamp_of (div binary64 m.admitted_wu flow_full_wu) (of_u64 0) (of_u64 1)

-- `fullness`
abbrev pub fullness : FeeFlowMeter → ℕ → Float
fullness m now = full (decay_to m now)

-- `x.max(0.0).round() as u64`, and of each rate
unfoldable pub whole_rate : Float → ℕ
whole_rate x = round_to_u64 (max_of x (of_u64 0))

unfoldable pub rates : FeeFlowMeter → List ℕ
rates m = map whole_rate m.admit_wu_s

-- `admit_rates_wu_s`
abbrev pub admit_rates_wu_s : FeeFlowMeter → ℕ → List ℕ
admit_rates_wu_s m now = rates (decay_to m now)

-- what an admission of a weight adds to the rate of its bucket, a time after the one before: `sample * alpha`
unfoldable pub admitted : ℕ → Float → Float
admitted weight dt = mul binary64 (div binary64 (of_u64 weight) dt) (sub binary64 (of_u64 1) (share_left dt))

-- `note_admit`: the time is that since the last admission, at least 1e-3
unfoldable pub note_admit : FeeFlowMeter → ℕ → ℕ → ℕ → FeeFlowMeter
note_admit m weight rate now =
    let dt = max_of (gap m.last_admit now) least_secs in
    let d = decay_to m now in
    let i = bucket_index rate in
    record {
      admit_wu_s = slice_set d.admit_wu_s i (add binary64 (slice_index_or d.admit_wu_s i nan) (admitted weight dt));
      admitted_wu = add binary64 d.admitted_wu (of_u64 weight);
      last = d.last;
      last_admit = now;
    }
