-- The hurdles in order, oldest first, and the pairs of their windows, after fee_analog.rs. Definitions only.
use Rattle.std.specs.Prelude.{ℕ, ◌+◌, ◌-◌, max, List, [], ◌∷◌, ◌++◌, length, take, drop, Float}
use Rattle.slices.specs.Lists.{tabulate}
use Rattle.slices.specs.Least.{least_of}
use Rattle.rbitcoin_mempool.specs.Median.{analog_lookback, ln_rate, lookback_part, median_of}

-- the hurdles after `push_back`, `push_front`, `pop_back` and `pop_front` of the Rust's deque
abbrev pub push_back : ℕ → List ℕ → List ℕ
push_back x hs = hs ++ (x ∷ [])

abbrev pub push_front : ℕ → List ℕ → List ℕ
push_front x hs = x ∷ hs

abbrev pub pop_back : List ℕ → List ℕ
pop_back hs = take (length hs - 1) hs

abbrev pub pop_front : List ℕ → List ℕ
pop_front hs = drop 1 hs

-- how many hurdles a window has: `n.max(1)`
unfoldable pub ahead_of : ℕ → ℕ
ahead_of target = max target 1

-- "the logarithm of the lower median of the lookback hurdles (at least 1) and the least of the next n", of the window that starts at t
pub record Pair : Type 0 where
  pub before : Float
  pub ahead : ℕ

unfoldable pub before_at : List ℕ → ℕ → ℕ → Float
before_at hs target t = ln_rate (median_of (lookback_part hs t (analog_lookback target)))

unfoldable pub ahead_at : List ℕ → ℕ → ℕ → ℕ
ahead_at hs target t = least_of (take (ahead_of target) (drop t hs))

abbrev pub pair_at : List ℕ → ℕ → ℕ → Pair
pair_at hs target t = record { before = before_at hs target t; ahead = ahead_at hs target t }

-- how many windows have their lookback and their end among c hurdles
unfoldable pub windows_in : ℕ → ℕ → ℕ
windows_in c target = c + 1 - (analog_lookback target + ahead_of target)

-- the pairs of a list of hurdles, oldest first: the first window starts behind the first lookback
unfoldable pub pairs_of : List ℕ → ℕ → List Pair
pairs_of hs target = tabulate (pair_at hs target) (analog_lookback target) (windows_in (length hs) target)
