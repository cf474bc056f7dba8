-- The pairs that looked like now: those in band, and the nearest. Definitions only.
use Rattle.std.specs.Prelude.{ℕ, suc, ◌+◌, ◌<◌, ◌≤◌, Bool, false, cond, List, [], ◌∷◌, map, length, take, negsuc, nat_lt, slice_index, Float}
use Rattle.std.specs.Float.{fin, binary64}
use Rattle.std.specs.Float.Ieee.{sub, le}
use Rattle.num.specs.Float.{abs_of, abs_bits}
use Rattle.num.specs.Ln.{ln_of}
use Rattle.slices.specs.Sorted.{below, equal}
use Rattle.rbitcoin_mempool.specs.Pairs.{Pair}
use Rattle.rbitcoin_mempool.specs.declared.fee_analog.pairs.Pairs.{Pairs}

-- pairs from a list of logarithms and one of outcomes
unfoldable pub paired : List Float → List ℕ → List Pair
paired [] vs = []
paired (b ∷ bs) [] = []
paired (b ∷ bs) (v ∷ vs) = record { before = b; ahead = v } ∷ paired bs vs

abbrev pub listed : Pairs → List Pair
listed p = paired p.logs.now p.outcomes.now

-- `ANALOG_BAND`: 1.25 = 5 / 2^2, and its logarithm
abbrev pub analog_band : Float
analog_band = fin false 5 (negsuc 1)

unfoldable pub band : Float
band = ln_of analog_band

-- `(before - now).abs() <= band`
unfoldable pub in_band : Float → Pair → Bool
in_band now p = le (abs_of (sub binary64 p.before now)) band

-- the outcomes of the pairs in band, oldest first
unfoldable pub outcomes_in_band : Float → List Pair → List ℕ
outcomes_in_band now [] = []
outcomes_in_band now (p ∷ ps) = cond (in_band now p) (p.ahead ∷ outcomes_in_band now ps) (outcomes_in_band now ps)

-- `(before - now).abs()`, as `total_cmp` orders it
unfoldable pub distance : Float → Pair → ℕ
distance now p = abs_bits (sub binary64 p.before now)

-- the same of a list of logarithms
abbrev pub distances : Float → List Float → List ℕ
distances now bs = map (λ b. abs_bits (sub binary64 b now)) bs

-- how many pairs are nearer than the one at place i: those at a lesser distance and, of those at the same, the older: "Of pairs equally distant at the cut of 200, the older window is taken"
abbrev pub nearer : List ℕ → ℕ → ℕ
nearer ds i = below (slice_index ds i) ds + equal (slice_index ds i) (take i ds)

-- of the pairs from place i on, the outcomes of those that fewer than m are nearer than, oldest first
unfoldable pub nearest_from : ℕ → List ℕ → ℕ → List ℕ → List ℕ
nearest_from m ds i [] = []
nearest_from m ds i (v ∷ vs) = cond (nat_lt (nearer ds i) m) (v ∷ nearest_from m ds (suc i) vs) (nearest_from m ds (suc i) vs)

abbrev pub nearest : ℕ → List ℕ → List ℕ → List ℕ
nearest m ds vs = nearest_from m ds 0 vs

-- a distance that cuts off the m nearest: fewer than m are below it, and m at the least are not above it
pub record Cut (m : ℕ) (ds : List ℕ) (cut : ℕ) : Type 0 where
  pub few : below cut ds < m
  pub many : m ≤ below cut ds + equal cut ds

unfoldable pub outcomes_nearest : Float → List Pair → List ℕ
outcomes_nearest now ps = nearest 200 (map (distance now) ps) (map (λ (p : Pair). p.ahead) ps)

-- "With fewer than 200 in band, the 200 nearest are used."
unfoldable pub neighbors : Float → List Pair → List ℕ
neighbors now ps = cond (nat_lt (length (outcomes_in_band now ps)) 200) (outcomes_nearest now ps) (outcomes_in_band now ps)
