-- No target of a board that was read is refused by the lookup. Assumes nothing.
use Prim.Native.Nat.{ℕ, min}
use mathlib.Core.Path.{◌≡◌, ap, sym, subst, ◌∙◌}
use native.Mathlib.Omega.{arith}
use mathlib.Core.Bool.{Bool, true, cond, ◌||◌, not}
use mathlib.Core.List.{List}
use mathlib.Core.Option.{Option, none}
use lib.Dec.{leb, eqb}
use lib.ListN.{length, get_or}
use borrow.Author.Tests.{eq-eqb, le-leb}
use Rattle.slices.proofs.Every.{every_true}
use Rattle.slices.proofs.Lists.{tabulate-length}
use Rattle.rbitcoin_mempool.specs.Answer.{refusal}
use Rattle.rbitcoin_mempool.specs.Answer.{none as nothing}
use Rattle.rbitcoin_mempool.specs.Rates.{as_answer, rates_of, marks_valid, marks_of, number_or, numbers_over}
use Rattle.rbitcoin_mempool.specs.Hold.{hold_defined_then_monotone, hold_refusal, held_numbers, held_marks}
use Rattle.rbitcoin_mempool.specs.Target.{fee_at_target, fee_at_target_sat_kvb}
use Rattle.rbitcoin_mempool.proofs.Demand3.{ascends_are}
use Rattle.rbitcoin_mempool.proofs.Passes.{rates-length}
use Rattle.rbitcoin_mempool.proofs.RateLists.{marks-length, marks-again}
use Rattle.rbitcoin_mempool.proofs.Runs.{hold-is, least-length}
use Rattle.quote_lines.specs.Format.{Board, board, parse}
use Rattle.quote_lines.proofs.Sound.{Sound, SoundInput, parse-sound}

not-refused : (t : Bool) (o : Option ℕ) (k : ℕ) → cond t nothing (as_answer o) ≡ refusal k → ⊥
not-refused t o k e = grind arith

module _ (b : Board) (s : Sound b) where
  marks_valid_lem : marks_valid b.marks ≡ true
  unfolding marks_valid
  marks_valid_lem = every_true (λ i. leb (get_or b.marks i 0) 1) (length b.marks) (λ i l. le-leb _ _ (s.marks-small i l))

  hold-accepts : hold_refusal b.rates b.marks ≡ none
  unfolding hold_refusal
  hold-accepts = rw (eq-eqb (length b.rates) (length b.marks) (s.rates-long ∙ sym s.marks-long), marks_valid_lem)

  held : List (Option ℕ)
  held = hold_defined_then_monotone (rates_of b.rates b.marks)

  held-length : length held ≡ length b.rates
  unfolding held
  held-length =
      let os = rates_of b.rates b.marks in
      ap length (hold-is os) ∙ least-length min none os ∙ rates-length b.rates b.marks

  numbers_are : held_numbers b.rates b.marks ≡ numbers_over b.rates held
  unfolding held_numbers held
  numbers_are = rw hold-accepts

  marks_are : held_marks b.rates b.marks ≡ marks_of held
  unfolding held_marks held
  marks_are = rw hold-accepts

  numbers-long : length (numbers_over b.rates held) ≡ length b.rates
  unfolding numbers_over
  numbers-long = tabulate-length (λ i. number_or (get_or b.rates i 0) (get_or held i none)) 0 (length b.rates)

  answered : (t k : ℕ) → fee_at_target_sat_kvb b.depths (held_numbers b.rates b.marks) (held_marks b.rates b.marks) t ≡ refusal k → ⊥
  unfolding fee_at_target_sat_kvb
  answered t k e =
      let ns = numbers_over b.rates held in
      let ms = marks_of held in
      not-refused (eqb (length b.depths) 0 || not (eqb (length b.depths) (length ns))) (fee_at_target b.depths (rates_of ns ms) t) k
      (rw (numbers_are, marks_are, eq-eqb (length ns) (length ms) (numbers-long ∙ sym held-length ∙ sym (marks-length held)), marks-again held, ascends_are b.depths s.ascends) at e)

pub never-refused : (input : List ℕ) (b : Board) → parse input ≡ board b
    → (t k : ℕ) → fee_at_target_sat_kvb b.depths (held_numbers b.rates b.marks) (held_marks b.rates b.marks) t ≡ refusal k → ⊥
never-refused input b e = answered b (subst SoundInput e (parse-sound input))
