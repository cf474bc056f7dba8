-- A count as numbers. Definitions only.
use Rattle.std.specs.Prelude.{ℕ}
use Rattle.rbitcoin_mempool.specs.Counted as counts

-- the refusal's number or 0, and the count or 0
abbrev pub count_refusal : counts.Counted → ℕ
count_refusal (counts.count n) = 0
count_refusal (counts.refused k) = k

abbrev pub count_number : counts.Counted → ℕ
count_number (counts.count n) = n
count_number (counts.refused k) = 0
