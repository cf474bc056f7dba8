-- Rates that may be missing: one, or a list of numbers with marks. Definitions only.
use Rattle.std.specs.Prelude.{ℕ, Bool, cond, List, map, length, ◌==◌, nat_le, slice_index, slice_index_or}
use Rattle.std.proofs.Math.Option.{Option, none, some}
use Rattle.slices.specs.Every.{every}
use Rattle.slices.specs.Lists.{tabulate}
use Rattle.std.specs.Prelude.{Some, None}
use Rattle.std.specs.declared.option.Option as rust
use Rattle.std.specs.declared.result.Result.{Result}
use Rattle.rbitcoin_mempool.specs.declared.answer.Refusal.{Refusal}
use Rattle.rbitcoin_mempool.specs.Outcome.{verdict, refusal_in}
use Rattle.rbitcoin_mempool.specs.Answer.{Answer, rate}
use Rattle.rbitcoin_mempool.specs.Answer.{none as nothing}

-- each case of a rate and of an outcome: a rate there with its number, or missing; no refusal, or a refusal with its number
abbrev pub given : rust.Option ℕ → Option ℕ
given (Some r) = some r
given None = none

abbrev pub refused_with : {A : Type 0} → Result A Refusal → Option ℕ
refused_with o = refusal_in (verdict o)

abbrev pub as_answer : Option ℕ → Answer
as_answer (some r) = rate r
as_answer none = nothing

-- "A list of rates is numbers with marks, 1 there, 0 missing; a missing number isn't read"
abbrev pub marked : ℕ → ℕ → Option ℕ
marked number mark = cond (mark == 1) (some number) none

abbrev pub rate_at : List ℕ → List ℕ → ℕ → Option ℕ
rate_at numbers marks i = marked (slice_index numbers i) (slice_index marks i)

unfoldable pub rates_of : List ℕ → List ℕ → List (Option ℕ)
rates_of numbers marks = tabulate (rate_at numbers marks) 0 (length numbers)

-- each mark is 0 or 1
unfoldable pub marks_valid : List ℕ → Bool
marks_valid marks = every (λ i. nat_le (slice_index marks i) 1) (length marks)

-- a list of rates as numbers, 0 where missing, and as marks
abbrev pub number_of : Option ℕ → ℕ
number_of (some r) = r
number_of none = 0

abbrev pub mark_of : Option ℕ → ℕ
mark_of (some r) = 1
mark_of none = 0

abbrev pub numbers_of : List (Option ℕ) → List ℕ
numbers_of os = map number_of os

abbrev pub marks_of : List (Option ℕ) → List ℕ
marks_of os = map mark_of os

-- the numbers of a list of rates, and what stood there before where missing
abbrev pub number_or : ℕ → Option ℕ → ℕ
number_or n (some r) = r
number_or n none = n

unfoldable pub numbers_over : List ℕ → List (Option ℕ) → List ℕ
numbers_over ns os = tabulate (λ i. number_or (slice_index ns i) (slice_index_or os i none)) 0 (length ns)
