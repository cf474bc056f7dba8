-- `rate_sat_kvb`, over the hurdles and the pairs. Definitions only.
use Rattle.std.specs.Prelude.{◌≡◌, ℕ, zero, suc, cond, ◌&&◌, List, length, nat_le, nat_lt, Float}
use Rattle.std.specs.Prelude.{Some, None}
use Rattle.std.specs.declared.option.Option.{Option}
use Rattle.rbitcoin_mempool.specs.Answer.{Answer, rate, none, refusal}
use Rattle.rbitcoin_mempool.specs.Median.{analog_lookback, ln_rate, lookback_part, median_of}
use Rattle.rbitcoin_mempool.specs.Quantile.{quantile_of, in_unit}
use Rattle.rbitcoin_mempool.specs.Pairs.{Pair}
use Rattle.rbitcoin_mempool.specs.Nearest.{neighbors}
use Rattle.rbitcoin_mempool.specs.Windows.{Windows, held_in, stored_pairs, find_target, or_else, lent_refusal}
use Rattle.rbitcoin_mempool.specs.declared.fee_analog.history.AnalogHistory.{AnalogHistory}

-- the number of the first target of n blocks, none where there is none
abbrev pub target_found : AnalogHistory → ℕ → Option ℕ
target_found s n = cond (nat_lt (find_target s n) s.tracked) (Some (find_target s n)) None

-- `now`: the logarithm of the median of the newest lookback
unfoldable pub now_of : List ℕ → ℕ → Float
now_of hs n = ln_rate (median_of (lookback_part hs (length hs) (analog_lookback n)))

-- of a tracked target's hurdles and pairs: "none .. under 2,000 pairs, or a confidence that is NaN or outside 0 to 1"
unfoldable pub rate_among : List ℕ → List Pair → ℕ → Float → Answer
rate_among hs ps n c = cond (nat_le 2000 (length ps) && in_unit c) (rate (quantile_of (neighbors (now_of hs n) ps) c)) none

-- "none for an untracked target"
unfoldable pub rate_in : Windows → ℕ → Float → Answer
rate_in w n c =
    let d = find_target w.state n in
    cond (nat_lt d w.state.tracked) (rate_among (held_in w) (stored_pairs w d) n c) none

-- 3, then 5, before any answer; 5 also for a scratch list of z places that is shorter than the capacity
unfoldable pub scan_refusal : AnalogHistory → ℕ → ℕ → ℕ → ℕ → ℕ
scan_refusal s h b a z = or_else (lent_refusal s h b a) (cond (nat_lt z s.capacity) 5 0)

-- a refusal by its number, 0 for none, before an answer
unfoldable pub answer_after : ℕ → Answer → Answer
answer_after zero a = a
answer_after (suc k) a = refusal (suc k)

unfoldable pub rate_sat_kvb : Windows → ℕ → ℕ → Float → Answer
rate_sat_kvb w z n c =
    answer_after (scan_refusal w.state (length w.hurdles) (length w.befores) (length w.aheads) z) (rate_in w n c)

-- "The scratch of an accepted pair scan is the one memory a contract may leave open": it keeps its length, and its contents too where there is no rate
abbrev pub ScratchAfter : Answer → List ℕ → List ℕ → Type 0
ScratchAfter (rate r) xs ys = length ys ≡ length xs
ScratchAfter none xs ys = ys ≡ xs
ScratchAfter (refusal k) xs ys = ys ≡ xs
