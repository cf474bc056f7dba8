-- The true byte sum over held blocks, and the kept total that equals it. Definitions only.
use Rattle.std.specs.Prelude.{ℕ, ◌+◌, ◌≡◌, List, [], ◌∷◌}
use Rattle.rbitcoin_net.specs.Map.{Entry}
use Rattle.rbitcoin_net.specs.History.{History}
use Rattle.rbitcoin_net.specs.declared.fee_history.HistoricalFeeBlock.{HistoricalFeeBlock}

unfoldable pub sum_of : List (Entry HistoricalFeeBlock) → ℕ
sum_of [] = 0
sum_of (e ∷ es) = e.value.txstat_bytes + sum_of es

-- "the kept byte total equals the sum over the held blocks"
abbrev pub Exact : History → Type 0
Exact x = x.total ≡ sum_of x.blocks
