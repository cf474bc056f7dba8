-- The bucket edges by the rule of `flow_bucket_edges`, and the buckets that they make. Definitions only.
use Rattle.std.specs.Prelude.{ℕ, zero, suc, ◌+◌, ◌-◌, ◌*◌, ◌/◌, cond, ltb, List, ◌==◌, nat_lt}
use Rattle.num.specs.Word.{saturating_add}
use Rattle.slices.specs.Lists.{tabulate}
use Rattle.slices.specs.Search.{seek}

-- `MIN_RELAY_FEE_RATE_SAT_PER_KVB`, and the fixed point of the series with ln 10 in it
abbrev pub min_relay : ℕ
min_relay = 100

abbrev pub scale : ℕ
scale = 1000000000000

abbrev pub ln10 : ℕ
ln10 = 2302585092994

-- `while n < 40 { term = term * y / (n * SCALE); acc += term; n += 1 }`, with k turns left; each quotient is cut
unfoldable pub series : ℕ → ℕ → ℕ → ℕ → ℕ → ℕ
series y zero n term acc = acc
series y (suc k) n term acc = let t = term * y / (n * scale) in series y k (suc n) t (acc + t)

-- the edge at i
unfoldable pub edge_at : ℕ → ℕ
edge_at i = (min_relay * series (i * ln10 / 100) 39 1 scale scale + scale / 2) / scale

-- the 401 edges of `flow_bucket_edges`
unfoldable pub flow_bucket_edges : List ℕ
flow_bucket_edges = tabulate edge_at 0 401

-- the first edge above a rate, 401 where there is none
unfoldable pub first_above : ℕ → ℕ
first_above rate = seek (λ i. ltb rate (edge_at i)) 0 401

-- `bucket_index`: below the first edge 0, above the last the open bucket, else the last edge at or below the rate
unfoldable pub bucket_index : ℕ → ℕ
bucket_index rate = cond (first_above rate == 0) 0 (cond (nat_lt (edge_at 400) rate) 401 (first_above rate - 1))

-- `first_bucket_above`: the first bucket whose floor is above the rate; the open bucket's floor is one above the last edge
unfoldable pub first_bucket_above : ℕ → ℕ
first_bucket_above rate = cond (nat_lt (first_above rate) 401) (first_above rate) (cond (nat_lt rate (saturating_add (edge_at 400) 1)) 401 402)
