-- `quote` meets its contract, from the contracts of the loop and of the lookup and demand 3 about their definitions. Assumes nothing.
use mathlib.Core.Path.{◌≡◌, sym, subst, subst₂}
use mathlib.Core.Option.{Option, none, some}
use mathlib.Core.List.{List}
use Prim.Native.Nat.{ℕ, ◌^◌, ◌<◌}
use lib.ListN.{length, get_or}
use Rattle.std.proofs.Common.{rules}
use Rattle.rbitcoin_mempool.specs.Answer.{Answer, refusal, answer}
use Rattle.rbitcoin_mempool.specs.Refusal.{number}
use Rattle.rbitcoin_mempool.specs.Lists.{args_in}
use Rattle.rbitcoin_mempool.specs.Hold.{Args, loop_refusal, loop_numbers, loop_marks}
use Rattle.rbitcoin_mempool.specs.Target.{fee_at_target_sat_kvb}
use Rattle.rbitcoin_mempool.specs.Demand3.{Demand3}
use Rattle.rbitcoin_mempool.proofs.Demand3.{demand3}
use Rattle.accuracy.specs.Quoted.{unless_refused, Quoted}
use Rattle.accuracy.proofs.quote.Goals as goal

ran : (a : Args) (out out_marks numbers marks : List ℕ) (t : ℕ) (x : Answer) (o : Option ℕ)
    → o ≡ loop_refusal a (length out) (length out_marks)
    → x ≡ unless_refused o (fee_at_target_sat_kvb a.depths numbers marks t)
    → (numbers ≡ loop_numbers a out out_marks) × (marks ≡ loop_marks a out out_marks)
    → ((i : ℕ) → i < length a.depths → get_or a.depths i 0 < 2 ^ 32)
    → Quoted a out out_marks numbers marks t x
ran a out out_marks numbers marks t x o e f l fits =
    record {
      answered = subst (λ (p : Option ℕ). x ≡ unless_refused p (fee_at_target_sat_kvb a.depths numbers marks t)) e f;
      numbers_are = l.0;
      marks_are = l.1;
      demand3 = subst₂ (λ (ns ms : List ℕ). Demand3 a (length out) (length out_marks) ns ms) (sym l.0) (sym l.1) (demand3 a out out_marks fits);
    }

pub returns-clause-quoted : goal.returns-clause-quoted
returns-clause-quoted c =
    let p = c.in_ok-published_depth_rates.ensures in
    ran (args_in c.args.lists.now) _ _ _ _ c.args.target _ none p.result_value
    (rw (c.as_marked.ensures.numbers, c.as_marked.ensures.marks) at c.fee_at_target_sat_kvb.ensures)
    (p.numbers_after, p.marks_after) c.depths_fit.ensures

pub returns-in_err-published_depth_rates-clause-quoted : goal.returns-in_err-published_depth_rates-clause-quoted
returns-in_err-published_depth_rates-clause-quoted c =
    let p = c.in_err-published_depth_rates.ensures in
    let k = number c.in_err-published_depth_rates.field-0.0 in
    let e : answer c.from_residual.result ≡ refusal k = search rules in
    ran (args_in c.args.lists.now) _ _ _ _ c.args.target _ (some k) p.result_value e (p.numbers_after, p.marks_after) c.depths_fit.ensures
