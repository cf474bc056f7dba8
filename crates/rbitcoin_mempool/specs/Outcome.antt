-- What an operation is answered with, and which of document 01's numbers each case is. Definitions only.
use Rattle.std.specs.Prelude.{ℕ, zero, suc, Ok, Err}
use Rattle.std.proofs.Math.Option.{Option, none, some}
use Rattle.std.specs.declared.result.Result.{Result}
use Rattle.rbitcoin_mempool.specs.declared.answer.Refusal.{Refusal}
use Rattle.rbitcoin_mempool.specs.Refusal.{number}

-- it was done, or refused with a number
pub data Verdict : Type 0 where
  done : Verdict
  refused : ℕ → Verdict

abbrev pub verdict : {A : Type 0} → Result A Refusal → Verdict
verdict (Ok _) = done
verdict (Err k) = refused (number k)

-- the number of a refusal, none where it was done
abbrev pub refusal_in : Verdict → Option ℕ
refusal_in done = none
refusal_in (refused k) = some k

-- the number of a refusal, 0 where it was done
abbrev pub verdict_number : Verdict → ℕ
verdict_number done = 0
verdict_number (refused k) = k

-- the same of a result
abbrev pub refusal_of : {A : Type 0} → Result A Refusal → ℕ
refusal_of r = verdict_number (verdict r)

-- of a refusal's number, 0 for no refusal
unfoldable pub verdict_of : ℕ → Verdict
verdict_of zero = done
verdict_of (suc k) = refused (suc k)
