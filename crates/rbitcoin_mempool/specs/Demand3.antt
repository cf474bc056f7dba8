-- Demand 3, one statement about the loop over depths and the lookup together: every quote beside the exact line. Definitions only.
use Rattle.std.specs.Prelude.{◌≡◌, ℕ, ◌+◌, ◌*◌, ◌^◌, ◌<◌, ◌≤◌, List, length, slice_index}
use Rattle.std.proofs.Math.Option.{Option, none, some}
use Rattle.rbitcoin_mempool.specs.Answer.{Answer, rate, refusal}
use Rattle.rbitcoin_mempool.specs.Answer.{none as nothing}
use Rattle.rbitcoin_mempool.specs.Hold.{Args, loop_refusal}
use Rattle.rbitcoin_mempool.specs.Target.{fee_at_target_sat_kvb}
use Rattle.rbitcoin_mempool.specs.Exact.{Frac, BoundedRate, exact_point}

-- each mark is 0 or 1, and each number under mark 1 is at most 2 ^ 50
abbrev pub Bounded : List ℕ → List ℕ → Type 0
Bounded numbers marks = (i : ℕ) → i < length marks → (slice_index marks i ≤ 1) × (slice_index marks i ≡ 1 → slice_index numbers i ≤ 2 ^ 50)

-- "lists of one length", the output's too
pub record OneLength (a : Args) (out out_marks : ℕ) : Type 0 where
  pub projected : length a.projected ≡ length a.depths
  pub projected_marks : length a.projected_marks ≡ length a.depths
  pub frontier : length a.frontier ≡ length a.depths
  pub frontier_marks : length a.frontier_marks ≡ length a.depths
  pub history : length a.history ≡ length a.depths
  pub history_marks : length a.history_marks ≡ length a.depths
  pub output : out ≡ length a.depths
  pub output_marks : out_marks ≡ length a.depths

-- no depth below one before it; "each projected, frontier, history and confirm rate is missing or at most 2^50 sat/kvB"
pub record Premises (a : Args) (out out_marks : ℕ) : Type 0 where
  pub lengths : OneLength a out out_marks
  pub ascending : (i j : ℕ) → i ≤ j → j < length a.depths → slice_index a.depths i ≤ slice_index a.depths j
  pub projected : Bounded a.projected a.projected_marks
  pub frontier : Bounded a.frontier a.frontier_marks
  pub history : Bounded a.history a.history_marks
  pub confirm : BoundedRate a.confirm

-- the quote q lies less than 2.5 from the point
pub record Near (q : ℕ) (p : Frac) : Type 0 where
  pub over : q * p.den * 2 < p.num * 2 + 5 * p.den
  pub under : p.num * 2 < q * p.den * 2 + 5 * p.den

-- a quote exactly when there is a point, and near it
abbrev pub Beside : Answer → Option Frac → Type 0
Beside (rate q) (some p) = (0 < p.den) × Near q p
Beside (rate q) none = ⊥
Beside nothing (some p) = ⊥
Beside nothing none = Unit {0}
Beside (refusal k) p = ⊥

-- of every target, by the lookup with the same depths and the output list as the loop left it: numbers and marks
pub record Accurate (a : Args) (numbers marks : List ℕ) : Type 0 where
  pub beside : (target : ℕ) → Beside (fee_at_target_sat_kvb a.depths numbers marks target) (exact_point a target)
  -- "no target is quoted above a nearer one that has a quote"
  pub order : (near far q r : ℕ) → near ≤ far → fee_at_target_sat_kvb a.depths numbers marks near ≡ rate q → fee_at_target_sat_kvb a.depths numbers marks far ≡ rate r → r ≤ q

-- demand 3, of the loop's arguments, the lengths of its output list and the numbers and marks that it left there
abbrev pub Demand3 : Args → ℕ → ℕ → List ℕ → List ℕ → Type 0
Demand3 a out out_marks numbers marks = Premises a out out_marks → (loop_refusal a out out_marks ≡ none) × Accurate a numbers marks
