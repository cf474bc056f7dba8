-- Document 01's starred cases, as one statement about the definitions. Definitions only.
use Rattle.std.specs.Prelude.{◌≡◌, ℕ, List, [], ◌∷◌, ◌++◌, replicate, from_bits, Float}
use Rattle.std.proofs.Math.Option.{some, none as missing}
use Rattle.std.specs.Float.{nan, binary64}
use Rattle.rbitcoin_mempool.specs.Answer.{Answer, rate, none}
use Rattle.rbitcoin_mempool.specs.Edges.{bucket_index, first_bucket_above}
use Rattle.rbitcoin_mempool.specs.Capacity.{effective_capacity_wu, min_rate_for_capacity}
use Rattle.rbitcoin_mempool.specs.Percentile.{percentile_sat}
use Rattle.rbitcoin_mempool.specs.Depths.{half64, one64, warmup_blend}
use Rattle.rbitcoin_mempool.specs.Hold.{hold_defined_then_monotone}
use Rattle.rbitcoin_mempool.specs.Target.{lerp_sat_kvb, fee_at_target_sat_kvb}
use Rattle.rbitcoin_mempool.specs.Median.{analog_lookback, lower_median}

-- 1 WU/s in bucket 401
abbrev pub open_inflow : List ℕ
open_inflow = replicate 401 0 ++ (1 ∷ [])

-- depths 2 6 12, rates none 600 300, at a target
abbrev pub quote_of_f : ℕ → Answer
quote_of_f target = fee_at_target_sat_kvb (2 ∷ 6 ∷ 12 ∷ []) (0 ∷ 600 ∷ 300 ∷ []) (0 ∷ 1 ∷ 1 ∷ []) target

-- the f64 nearest to 0.99
abbrev pub share99 : Float
share99 = from_bits binary64 0x3FEF_AE14_7AE1_47AE

pub record Cases : Type 0 where
  -- bucket: 0, 99, 101 → 0; 102 → 1; 1,000,000 → 400; 1,000,001 → 401
  pub case_A : (bucket_index 0 ≡ 0)
      × (bucket_index 99 ≡ 0)
      × (bucket_index 101 ≡ 0)
      × (bucket_index 102 ≡ 1)
      × (bucket_index 1000000 ≡ 400)
      × (bucket_index 1000001 ≡ 401)
  -- first above: 0 → 0; 100 → 1; 1,000,000 → 401; 1,000,001 → 402
  pub case_B : (first_bucket_above 0 ≡ 0) × (first_bucket_above 100 ≡ 1) × (first_bucket_above 1000000 ≡ 401) × (first_bucket_above 1000001 ≡ 402)
  -- effective: 0 → 3,200,000; 2 → 7,600,000; 4,294,967,295 → 16,320,875,721,000,000
  pub case_C : (effective_capacity_wu 0 ≡ 3200000) × (effective_capacity_wu 2 ≡ 7600000) × (effective_capacity_wu 4294967295 ≡ 16320875721000000)
  -- line 3:10 to 6:5: target 4 → 8, 5 → 7; line 1:4 to 3:1: target 2 → 3
  pub case_D : (lerp_sat_kvb 3 10 6 5 4 ≡ 8) × (lerp_sat_kvb 3 10 6 5 5 ≡ 7) × (lerp_sat_kvb 1 4 3 1 2 ≡ 3)
  -- hold: none 9 none 12 7 none 8 → none 9 9 9 7 7 7
  pub case_E : hold_defined_then_monotone (missing ∷ some 9 ∷ missing ∷ some 12 ∷ some 7 ∷ missing ∷ some 8 ∷ []) ≡ missing ∷ some 9 ∷ some 9 ∷ some 9 ∷ some 7 ∷ some 7 ∷ some 7 ∷ []
  -- depths 2 6 12, rates none 600 300: 1, 2, 4 → none; 9 → 450; 1000 → 300
  pub case_F : (quote_of_f 1 ≡ none) × (quote_of_f 2 ≡ none) × (quote_of_f 4 ≡ none) × (quote_of_f 9 ≡ rate 450) × (quote_of_f 1000 ≡ rate 300)
  -- percentile of 1 2 3 4: 50 → 2; 255 → 4
  pub case_G : (percentile_sat (1 ∷ 2 ∷ 3 ∷ 4 ∷ []) 50 ≡ rate 2) × (percentile_sat (1 ∷ 2 ∷ 3 ∷ 4 ∷ []) 255 ≡ rate 4)
  -- lower median of 5 1 4 2 → 2
  pub case_H : lower_median (5 ∷ 1 ∷ 4 ∷ 2 ∷ []) ≡ rate 2
  -- lookback: 0, 12 → 3; 16 → 4; 576 → 144
  pub case_I : (analog_lookback 0 ≡ 3) × (analog_lookback 12 ≡ 3) × (analog_lookback 16 ≡ 4) × (analog_lookback 576 ≡ 144)
  -- warm-up 0.5 of cold 3, warm 4 → 4; NaN → 3; no cold, 0.99 → none, 1 → 4
  pub case_J : (warmup_blend half64 (some 3) (some 4) ≡ some 4)
      × (warmup_blend nan (some 3) (some 4) ≡ some 3)
      × (warmup_blend share99 missing (some 4) ≡ missing)
      × (warmup_blend one64 missing (some 4) ≡ some 4)
  -- N=1, 1 WU/s in bucket 401, candidate 1,000,000: stock 3,198,800 fits, 3,198,801 doesn't
  pub case_K : (min_rate_for_capacity (1000000 ∷ []) (3198800 ∷ []) open_inflow 1 ≡ rate 1000000)
      × (min_rate_for_capacity (1000000 ∷ []) (3198801 ∷ []) open_inflow 1 ≡ none)
