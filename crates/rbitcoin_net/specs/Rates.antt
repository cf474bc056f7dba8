-- `rates`, for every state and memory. Definitions only.
use Rattle.std.specs.Prelude.{ℕ, ◌<◌, ◌≡◌, Bool, true, false, cond, List, ltb, eqb, Float, length}
use Rattle.std.proofs.Math.Option.{Option, none}
use Rattle.slices.specs.Lists.{tabulate}
use Rattle.rbitcoin_mempool.specs.declared.fee_analog.history.AnalogHistory.{AnalogHistory}
use Rattle.rbitcoin_mempool.specs.Outcome.{Verdict, verdict_of}
use Rattle.rbitcoin_mempool.specs.Rates.{rate_at, number_of, mark_of, numbers_of, marks_of}
use Rattle.rbitcoin_mempool.specs.Scan.{rate_sat_kvb}
use Rattle.rbitcoin_mempool.specs.Windows.{Windows, windows, target_at, or_else, push_all, emptied}
use Rattle.rbitcoin_mempool.specs.Windows.{size_refusal as windows_size_refusal}
use Rattle.rbitcoin_net.specs.Map.{Entry}
use Rattle.rbitcoin_net.specs.History.{found, confidence_of, hurdles_of, rates_answer, after_rates}
use Rattle.rbitcoin_net.specs.Lent.{Rows, Hashes, Lent, lent, held_rows, view, Sound, state_refusal, rows_refusal}
use Rattle.rbitcoin_net.specs.Readers.{wrote}
use Rattle.rbitcoin_net.specs.declared.fee_history.HistoricalFeeBlock.{HistoricalFeeBlock}
use Rattle.rbitcoin_net.specs.declared.fee_history.FeeHistory.{FeeHistory}

-- a state with the windows' memory
pub record Rated : Type 0 where
  pub state : FeeHistory
  pub hurdles : List ℕ
  pub befores : List Float
  pub aheads : List ℕ

abbrev pub rated : FeeHistory → List ℕ → List Float → List ℕ → Rated
rated s us bs ds = record { state = s; hurdles = us; befores = bs; aheads = ds }

abbrev pub windows_with : Rated → Windows
windows_with x = windows x.state.analog x.hurdles x.befores x.aheads

-- with rows and hashes, all that is lent
abbrev pub lent_to : Rows → Hashes → Rated → Lent
lent_to m z x = lent m z x.hurdles x.befores x.aheads

-- `if analog_stale { analog.rebuild(..) }`: every hurdle dropped, and the rates of the held rows pushed behind
unfoldable pub refreshed : Bool → List (Entry HistoricalFeeBlock) → Windows → Windows
refreshed stale es w = cond stale (push_all (hurdles_of es) (emptied w)) w

abbrev pub refreshed_in : Rows → Rated → Windows
refreshed_in m x = refreshed x.state.analog_stale (held_rows m x.state) (windows_with x)

-- the rate of target number d, with z places of scratch
unfoldable pub rate_from : Windows → ℕ → ℕ → Option ℕ
rate_from w z d = found (rate_sat_kvb w z (target_at w.state d) (confidence_of (target_at w.state d)))

-- of 16 places the first n hold f, the rest 0
unfoldable pub slots : ℕ → (ℕ → ℕ) → List ℕ
slots n f = tabulate (λ d. cond (ltb d n) (f d) 0) 0 16

-- windows that are not stale, and kept rates
abbrev pub keeping : AnalogHistory → List ℕ → List ℕ → FeeHistory → FeeHistory
keeping a numbers marks s = record { analog = a; analog_stale = false; start = s.start; count = s.count; txstat_bytes = s.txstat_bytes; budget = s.budget; hashes = s.hashes; kept = true; kept_numbers = numbers; kept_marks = marks }

unfoldable pub answered_from : ℕ → Windows → FeeHistory → Rated
answered_from z w s =
    rated (keeping w.state (slots w.state.tracked (λ d. number_of (rate_from w z d))) (slots w.state.tracked (λ d. mark_of (rate_from w z d))) s)
    w.hurdles w.befores w.aheads

-- `rates`: what it leaves, and the kept rates, which are its answer
unfoldable pub rates_in : ℕ → Rows → Rated → Rated
rates_in z m x = cond x.state.kept x (answered_from z (refreshed_in m x) x.state)

unfoldable pub answers_in : FeeHistory → List (Option ℕ)
answers_in s = tabulate (rate_at s.kept_numbers s.kept_marks) 0 s.analog.tracked

-- 1 for numbers and marks of unequal length, then the state's and the rows', then 5 for the windows' memory, for scratch shorter than the capacity and for output lists shorter than the answer
unfoldable pub rates_refusal : FeeHistory → ℕ → ℕ → ℕ → ℕ → ℕ → ℕ → ℕ → ℕ → ℕ → ℕ → ℕ
rates_refusal s h m r z u b a x to-n to-m =
    or_else (cond (eqb to-n to-m) 0 1)
    (or_else (or_else (state_refusal s) (rows_refusal s.analog.capacity h m r z))
    (or_else (windows_size_refusal s.analog u b a)
    (cond (ltb x s.analog.capacity) 5 (cond (ltb to-n s.analog.tracked) 5 0))))

-- of rows, a state with the windows' memory, and z, n and o places of scratch, of output numbers and of marks
abbrev pub rates_refusal_of : Rows → Rated → ℕ → ℕ → ℕ → ℕ
rates_refusal_of m x z n o = rates_refusal x.state (length m.heights) (length m.marks) (length m.rates) (length m.sizes) (length x.hurdles) (length x.befores) (length x.aheads) z n o

-- the caller's lists: scratch, numbers, marks
pub record Outputs : Type 0 where
  pub scratch : List ℕ
  pub numbers : List ℕ
  pub marks : List ℕ

abbrev pub outputs : List ℕ → List ℕ → List ℕ → Outputs
outputs z n o = record { scratch = z; numbers = n; marks = o }

abbrev pub refusal_for : Rows → Rated → Outputs → ℕ
refusal_for m x o = rates_refusal_of m x (length o.scratch) (length o.numbers) (length o.marks)

-- scratch is open only after a scan that found a rate: kept rates, a refusal and no rate at all leave it
pub record ScratchLeft (refusal : ℕ) (m : Rows) (x : Rated) (xs ys : List ℕ) : Type 0 where
  pub long : length ys ≡ length xs
  pub refused : (refusal ≡ 0 → ⊥) → ys ≡ xs
  pub kept : x.state.kept ≡ true → ys ≡ xs
  pub nothing : ((d : ℕ) → d < x.state.analog.tracked → rate_from (refreshed_in m x) (length xs) d ≡ none) → ys ≡ xs

-- the contract: the equations for every state and memory, and what is left of the scratch; over any hashes, of a sound state the Rust's `rates`, and a sound state again
pub record AnswersRates (m : Rows) (x : Rated) (o : Outputs) (v : Verdict) (y : Rated) (q : Outputs) : Type 0 where
  pub outcome : v ≡ verdict_of (refusal_for m x o)
  pub is : y ≡ cond (eqb (refusal_for m x o) 0) (rates_in (length o.scratch) m x) x
  pub numbers : q.numbers ≡ wrote (refusal_for m x o) (numbers_of (answers_in y.state)) o.numbers
  pub marks : q.marks ≡ wrote (refusal_for m x o) (marks_of (answers_in y.state)) o.marks
  pub scratch : ScratchLeft (refusal_for m x o) m x o.scratch q.scratch
  pub answers : (z : Hashes) → Sound x.state (lent_to m z x) → refusal_for m x o ≡ 0 → answers_in y.state ≡ rates_answer (view x.state (lent_to m z x))
  pub means : (z : Hashes) → Sound x.state (lent_to m z x) → refusal_for m x o ≡ 0 → view y.state (lent_to m z y) ≡ after_rates (view x.state (lent_to m z x))
  pub sound : (z : Hashes) → Sound x.state (lent_to m z x) → Sound y.state (lent_to m z y)
