-- Document 01's numbers of the refusals. Definitions only.
use Rattle.std.specs.Prelude.{ℕ}
use Rattle.rbitcoin_mempool.specs.declared.answer.Refusal.{Refusal}
use Rattle.rbitcoin_mempool.specs.declared.answer.Refusal.TheVariants.{Unpaired, Descending, TooManyTargets, Full, Short, Empty, Confidence, Mark}

abbrev pub number : Refusal → ℕ
number Unpaired = 1
number Descending = 2
number TooManyTargets = 3
number Full = 4
number Short = 5
number Empty = 6
number Confidence = 7
number Mark = 8
