-- What is promised of the loop over depths and then the lookup of a target: demand 3, and every other input. Definitions only.
use Rattle.std.specs.Prelude.{ℕ, ◌≡◌, List, length}
use Rattle.std.proofs.Math.Option.{Option, none, some}
use Rattle.rbitcoin_mempool.specs.Answer.{Answer, refusal}
use Rattle.rbitcoin_mempool.specs.Hold.{Args, loop_refusal, loop_numbers, loop_marks}
use Rattle.rbitcoin_mempool.specs.Target.{fee_at_target_sat_kvb}
use Rattle.rbitcoin_mempool.specs.Demand3.{Demand3}

-- the loop's refusal, or else what the lookup answers
abbrev pub unless_refused : Option ℕ → Answer → Answer
unless_refused none x = x
unless_refused (some k) x = refusal k

-- out and out_marks as they were lent, numbers and marks as they are left; x is the answer to the target
pub record Quoted (a : Args) (out out_marks numbers marks : List ℕ) (target : ℕ) (x : Answer) : Type 0 where
  pub answered : x ≡ unless_refused (loop_refusal a (length out) (length out_marks)) (fee_at_target_sat_kvb a.depths numbers marks target)
  pub numbers_are : numbers ≡ loop_numbers a out out_marks
  pub marks_are : marks ≡ loop_marks a out out_marks
  pub demand3 : Demand3 a (length out) (length out_marks) numbers marks
