-- Document 01's answers, and which of them each case of an answered rate is. Definitions only.
use Rattle.std.specs.Prelude.{ℕ, min, Some, Ok, Err}
use Rattle.std.specs.Prelude.{None as Missing}
use Rattle.std.specs.declared.option.Option.{Option}
use Rattle.std.specs.declared.result.Result.{Result}
use Rattle.rbitcoin_mempool.specs.declared.answer.Refusal.{Refusal}
use Rattle.rbitcoin_mempool.specs.Refusal.{number}

-- a rate with its number, none, or a refusal with its number
pub data Answer : Type 0 where
  rate : ℕ → Answer
  none : Answer
  refusal : ℕ → Answer

abbrev pub answer : Result (Option ℕ) Refusal → Answer
answer (Ok (Some r)) = rate r
answer (Ok Missing) = none
answer (Err k) = refusal (number k)

-- of a call that finds a rate wherever it is not refused
abbrev pub found : Result ℕ Refusal → Answer
found (Ok r) = rate r
found (Err k) = refusal (number k)

-- a rate, or a lesser one that is there
abbrev pub lesser : ℕ → Answer → Answer
lesser r (rate s) = rate (min r s)
lesser r none = rate r
lesser r (refusal k) = refusal k
