-- A decade of edges in finer units: the edges of the four decades are roundings of the same 100 numbers. Definitions only.
use Rattle.std.specs.Prelude.{◌≡◌, ℕ, zero, suc, ◌+◌, ◌*◌, ◌/◌, ◌%◌, ◌^◌, ◌<◌, ◌≤◌, List}
use Rattle.slices.specs.Lists.{tabulate}
use Rattle.rbitcoin_mempool.specs.Edges.{min_relay, scale, ln10, series}

-- the edge at j of a decade, with six digits after the first, cut
unfoldable pub fine_edge : ℕ → ℕ
fine_edge j = min_relay * 10000 * series (j * ln10 / 100) 39 1 scale scale / scale

-- half a sat/kvB in the fine units of the decade d, 10^(2 + d) to 10^(3 + d)
abbrev pub half_unit : ℕ → ℕ
half_unit zero = 5000
half_unit (suc zero) = 500
half_unit (suc (suc zero)) = 50
half_unit (suc (suc (suc d))) = 5

-- the decade that a rate lies in
pub record InDecade (rate d : ℕ) : Type 0 where
  pub known : d < 4
  pub from : 10 ^ (2 + d) ≤ rate
  pub to : rate < 10 ^ (3 + d)

-- of the first m fine edges those below y are the first n
pub record Ranked (y m n : ℕ) : Type 0 where
  pub within : n ≤ m
  pub below : (j : ℕ) → j < n → fine_edge j < y
  pub above : (j : ℕ) → n ≤ j → j < m → y ≤ fine_edge j

-- where an eighth of a power of two starts and ends: 2^(18 + k / 8) in eighths, k % 8 of them on
abbrev pub eighth_start : ℕ → ℕ
eighth_start k = (8 + k % 8) * 2 ^ (15 + k / 8)

abbrev pub eighth_end : ℕ → ℕ
eighth_end k = (9 + k % 8) * 2 ^ (15 + k / 8)

-- five fine edges in a row, the first at a: those before lie below the eighth k, those after not below its end
pub record FiveEdges (k a : ℕ) (es : List ℕ) : Type 0 where
  pub room : a + 5 ≤ 100
  pub edges : es ≡ tabulate (λ j. fine_edge (a + j)) 0 5
  pub low : (j : ℕ) → j < a → fine_edge j < eighth_start k
  pub high : (j : ℕ) → a + 5 ≤ j → j < 100 → eighth_end k ≤ fine_edge j
