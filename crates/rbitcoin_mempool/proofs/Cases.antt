-- The starred cases hold: each is computed from the definitions. Assumes nothing.
use Rattle.std.proofs.Common.{refl}
use lib.Ieee.{add, sub, mul, lt, le, of_bits, of_int, to_unsigned}
use Rattle.num.specs.Float.{clamp_of}
use Rattle.num.specs.Round.{round_to_u64}
use Rattle.slices.specs.Every.{every}
use Rattle.slices.specs.Lists.{tabulate}
use Rattle.slices.specs.Search.{seek}
use Rattle.slices.specs.Sorted.{insert, sorted}
use Rattle.rbitcoin_mempool.specs.Cases.{Cases}
use Rattle.rbitcoin_mempool.specs.Edges.{series, edge_at, first_above, bucket_index, first_bucket_above}
use Rattle.rbitcoin_mempool.specs.Capacity.{effective_capacity_wu, inflow_wu, inflow_suffix_wu, stressed_wu, fits_with, fits, least_fitting, min_rate_for_capacity}
use Rattle.rbitcoin_mempool.specs.Percentile.{percentile_sat}
use Rattle.rbitcoin_mempool.specs.Rates.{rates_of, marks_valid}
use Rattle.rbitcoin_mempool.specs.Depths.{warmed, clamped_share, blend_by, warmup_blend}
use Rattle.rbitcoin_mempool.specs.Hold.{no_more, enforce_monotone_desc, fill_holes, defined, put_back, hold_defined_then_monotone, never_descends}
use Rattle.rbitcoin_mempool.specs.Target.{nearest_quotient, lerp_sat_kvb, last_there, at_index, at_target, fee_at_target, fee_at_target_sat_kvb}
use Rattle.rbitcoin_mempool.specs.Median.{analog_lookback, median_of, lower_median}

pub cases : Cases
unfolding seek series edge_at first_above bucket_index first_bucket_above effective_capacity_wu tabulate insert sorted inflow_wu inflow_suffix_wu stressed_wu fits_with fits least_fitting min_rate_for_capacity percentile_sat analog_lookback median_of lower_median every rates_of marks_valid no_more enforce_monotone_desc fill_holes defined put_back hold_defined_then_monotone never_descends nearest_quotient lerp_sat_kvb last_there at_index at_target fee_at_target fee_at_target_sat_kvb warmed clamped_share blend_by warmup_blend clamp_of round_to_u64 add sub mul lt le of_bits of_int to_unsigned
cases =
    record {
      case_A = (refl, refl, refl, refl, refl, refl);
      case_B = (refl, refl, refl, refl);
      case_C = (refl, refl, refl);
      case_D = (refl, refl, refl);
      case_E = refl;
      case_F = (refl, refl, refl, refl, refl);
      case_G = (refl, refl);
      case_H = refl;
      case_I = (refl, refl, refl, refl);
      case_J = (refl, refl, refl, refl);
      case_K = (refl, refl);
    }
