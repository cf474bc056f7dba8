-- Case L of document 01, as facts about the definitions. Assumes nothing.
use Rattle.std.proofs.Common.{◌≡◌, [], ◌∷◌, refl}
use Rattle.slices.specs.Lists.{tabulate}
use Rattle.slices.specs.Least.{least_of}
use Rattle.slices.specs.Sorted.{insert, sorted}
use Rattle.rbitcoin_mempool.specs.Median.{analog_lookback, ln_rate, lookback_part, median_of}
use Rattle.rbitcoin_mempool.specs.Pairs.{ahead_of, before_at, ahead_at, windows_in, pairs_of}

-- L: target 1, hurdles 5 9 7: no pair; then 8: the pair of ln 7 and 8
pub case_l-none : pairs_of (5 ∷ 9 ∷ 7 ∷ []) 1 ≡ []
unfolding pairs_of windows_in tabulate analog_lookback ahead_of
case_l-none = refl

pub case_l-one : pairs_of (5 ∷ 9 ∷ 7 ∷ 8 ∷ []) 1 ≡ record { before = ln_rate 7; ahead = 8 } ∷ []
unfolding pairs_of windows_in tabulate analog_lookback ahead_of before_at ahead_at lookback_part median_of sorted insert least_of
case_l-one = refl
