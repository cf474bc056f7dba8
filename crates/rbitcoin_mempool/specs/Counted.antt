-- What a question for a count is answered with, and which of document 01's numbers each case is. Definitions only.
use Rattle.std.specs.Prelude.{ℕ, zero, suc, Ok, Err}
use Rattle.std.specs.declared.result.Result.{Result}
use Rattle.rbitcoin_mempool.specs.declared.answer.Refusal.{Refusal}
use Rattle.rbitcoin_mempool.specs.Refusal.{number}

-- a count, or a refusal with its number
pub data Counted : Type 0 where
  count : ℕ → Counted
  refused : ℕ → Counted

abbrev pub counted : Result ℕ Refusal → Counted
counted (Ok n) = count n
counted (Err k) = refused (number k)

-- of a refusal's number, 0 for no refusal, and the count
unfoldable pub counted_of : ℕ → ℕ → Counted
counted_of zero n = count n
counted_of (suc k) n = refused (suc k)
