-- The loop over depths as its code makes it: each place written, then held; and its refusals. Assumes nothing.
use Rattle.std.proofs.Common.{◌≡◌, ℕ, suc, ◌+◌, ◌<◌, ◌≤◌, Bool, true, false, cond, ◌&&◌, List, length, get_or, set, sym, refl, ap, ◌∙◌, true≢false, not-suc-le-zero, arith, length-set, ext_get_or, eqb-true}
use mathlib.Core.Option.{Option, none, some}
use Rattle.slices.specs.Lists.{tabulate}
use Rattle.slices.proofs.Lists.{tabulate-at, tabulate-length, tabulate-is}
use Rattle.rbitcoin_mempool.specs.Rates.{rate_at, rates_of, marks_valid, number_of, mark_of, number_or, numbers_of, marks_of, numbers_over}
use Rattle.rbitcoin_mempool.specs.Hold.{Args, published_at, depth_rates, hold_defined_then_monotone, never_descends, same_lengths, input_marks, loop_refusal}
use Rattle.rbitcoin_mempool.specs.declared.fee_est.publish.DepthLists.{DepthLists}
use Rattle.rbitcoin_mempool.specs.Lists.{Aligned, args_in}
use Rattle.rbitcoin_mempool.specs.Demand3.{OneLength}
use Rattle.rbitcoin_mempool.proofs.RateLists.{map_at, map-length, numbers-length, marks-again, rate-again, rates-again}
use Rattle.rbitcoin_mempool.proofs.Passes.{written, up_to, held_at, none_up_to}

-- ---- the rates f at the places before i are written
pub record Writing (f : ℕ → Option ℕ) (n : ℕ) (out marks : List ℕ) (i : ℕ) : Type 0 where
  pub within : i ≤ n
  pub out-length : length out ≡ n
  pub marks-length : length marks ≡ n
  pub done : (k : ℕ) → k < i → (get_or out k 0 ≡ number_of (f k)) × (get_or marks k 0 ≡ mark_of (f k))

module _ (f : ℕ → Option ℕ) (n : ℕ) (out marks : List ℕ) where
  pub write-start : length out ≡ n → length marks ≡ n → Writing f n out marks 0
  write-start a b = record { within = omega arith; out-length = a; marks-length = b; done = λ k l. absurd (not-suc-le-zero l) }

  pub write_step : (i v m : ℕ) → i < n → Writing f n out marks i → v ≡ number_of (f i) → m ≡ mark_of (f i) → Writing f n (set out i v) (set marks i m) (i + 1)
  write_step i v m l h e g =
      record {
        within = omega arith;
        out-length = length-set out i v ∙ h.out-length;
        marks-length = length-set marks i m ∙ h.marks-length;
        done = written (λ (k x y : ℕ). (x ≡ number_of (f k)) × (y ≡ mark_of (f k))) out marks i v m (omega (arith, h.out-length)) (omega (arith, h.marks-length)) h.done (e, g);
      }

  pub write_end : (i : ℕ) → Writing f n out marks i → n ≤ i → (out ≡ numbers_of (tabulate f 0 n)) × (marks ≡ marks_of (tabulate f 0 n))
  write_end i h l =
      let T = tabulate f 0 n in
      let s = tabulate-length f 0 n in (
        ext_get_or 0 out (numbers_of T) (h.out-length ∙ sym (map-length number_of T ∙ s))
            (λ k r. let q : k < n = omega (arith, h.out-length) in (h.done k (omega arith)).0 ∙ ap number_of (sym (tabulate-at f none n k q)) ∙ sym (map_at number_of T none 0 refl k)),
        ext_get_or 0 marks (marks_of T) (h.marks-length ∙ sym (map-length mark_of T ∙ s))
            (λ k r. let q : k < n = omega (arith, h.marks-length) in (h.done k (omega arith)).1 ∙ ap mark_of (sym (tabulate-at f none n k q)) ∙ sym (map_at mark_of T none 0 refl k)),
      )

-- ---- the hold pass over a list that has 0 under its missing marks
module _ (os : List (Option ℕ)) where
  abbrev ns : List ℕ
  ns = numbers_of os

  abbrev ms : List ℕ
  ms = marks_of os

  abbrev H : List (Option ℕ)
  H = hold_defined_then_monotone (rates_of ns ms)

  zero-under : (k : ℕ) → k < length ns → (o : Option ℕ) → get_or H k none ≡ o → number_of o ≡ number_or (get_or ns k 0) o
  zero-under k l (some r) e = refl
  zero-under k l none e =
      let u : up_to (rate_at ns ms) (suc k) ≡ none = sym (ap (λ (h : List (Option ℕ)). get_or h k none) (held_at ns ms) ∙ tabulate-at (λ j. up_to (rate_at ns ms) (suc j)) none (length ns) k l) ∙ e in
      let z : get_or os k none ≡ none = sym (rate-again os k) ∙ none_up_to (rate_at ns ms) k (sym u) in
      sym (map_at number_of os none 0 refl k ∙ ap number_of z)

  held-length : length H ≡ length ns
  held-length = ap length (held_at ns ms) ∙ tabulate-length (λ j. up_to (rate_at ns ms) (suc j)) 0 (length ns)

  over : numbers_over ns H ≡ numbers_of H
  unfolding numbers_over
  over =
      sym
      (tabulate-is (λ i. number_or (get_or ns i 0) (get_or H i none)) 0 (length ns) (numbers_of H) (numbers-length H ∙ held-length)
      (λ k l. map_at number_of H none 0 refl k ∙ zero-under k l (get_or H k none) refl))

  pub held-numbers : numbers_over ns H ≡ numbers_of (hold_defined_then_monotone os)
  held-numbers = over ∙ ap (λ (l : List (Option ℕ)). numbers_of (hold_defined_then_monotone l)) (rates-again os)

  pub held-marks : marks_of H ≡ marks_of (hold_defined_then_monotone os)
  held-marks = ap (λ (l : List (Option ℕ)). marks_of (hold_defined_then_monotone l)) (rates-again os)

-- ---- the published rates, written as O and M and then held
module _ (a : Args) (O M : List ℕ) (p : O ≡ numbers_of (tabulate (published_at a) 0 (length a.depths))) (q : M ≡ marks_of (tabulate (published_at a) 0 (length a.depths))) where
  pub valid : marks_valid M ≡ true
  valid = rw q (marks-again _)

  pub numbers-held : (ns : List ℕ) → ns ≡ numbers_over O (hold_defined_then_monotone (rates_of O M)) → ns ≡ numbers_of (depth_rates a)
  unfolding depth_rates
  numbers-held ns e = rw (e, p, q) (held-numbers (tabulate (published_at a) 0 (length a.depths)))

  pub marks-held : (ms : List ℕ) → ms ≡ marks_of (hold_defined_then_monotone (rates_of O M)) → ms ≡ marks_of (depth_rates a)
  unfolding depth_rates
  marks-held ms e = rw (e, p, q) (held-marks (tabulate (published_at a) 0 (length a.depths)))

-- ---- what no refusal says
pub and_both : (x y : Bool) → x && y ≡ true → (x ≡ true) × (y ≡ true)
and_both true y e = (refl, e)
and_both false y e = absurd (true≢false (sym e))

accepts : (b : Bool) (o : Option ℕ) (k : ℕ) → cond b o (some k) ≡ none → (b ≡ true) × (o ≡ none)
accepts true o k e = (refl, e)
accepts false o k e = let z : ◌≡◌ {A = ℕ} 0 1 = cc in absurd (omega arith)

-- the loop refuses nothing: each of its three tests passed
pub record Passed (a : Args) (out out_marks : ℕ) : Type 0 where
  pub lengths : same_lengths a out out_marks ≡ true
  pub marks : input_marks a ≡ true
  pub depths : never_descends a.depths ≡ true

pub passed : (a : Args) (out out_marks : ℕ) → loop_refusal a out out_marks ≡ none → Passed a out out_marks
unfolding loop_refusal
passed a out out_marks e =
    let x = accepts (same_lengths a out out_marks) (cond (input_marks a) (cond (never_descends a.depths) none (some 2)) (some 8)) 1 e in
    let y = accepts (input_marks a) (cond (never_descends a.depths) none (some 2)) 8 x.1 in
    record { lengths = x.0; marks = y.0; depths = (accepts (never_descends a.depths) none 2 y.1).0 }

pub agreed : (a : Args) (out out_marks : ℕ) → loop_refusal a out out_marks ≡ none → OneLength a out out_marks
unfolding same_lengths
agreed a out out_marks e =
    let x = and_both _ _ (passed a out out_marks e).lengths in
    let y = and_both _ _ x.1 in
    let z = and_both _ _ y.1 in
    let p = and_both _ _ x.0 in
    let f = and_both _ _ y.0 in
    let h = and_both _ _ z.0 in
    let o = and_both _ _ z.1 in
    record {
      projected = eqb-true _ _ p.0;
      projected_marks = eqb-true _ _ p.1;
      frontier = eqb-true _ _ f.0;
      frontier_marks = eqb-true _ _ f.1;
      history = eqb-true _ _ h.0;
      history_marks = eqb-true _ _ h.1;
      output = eqb-true _ _ o.0;
      output_marks = eqb-true _ _ o.1;
    }

-- so each list of rates has a number and a mark for each depth
pub aligned : (l : DepthLists) (out out_marks : ℕ) → loop_refusal (args_in l) out out_marks ≡ none → Aligned l
aligned l out out_marks e =
    let g = agreed (args_in l) out out_marks e in
    record {
      projected = record { numbers = g.projected; marks = g.projected_marks };
      frontier = record { numbers = g.frontier; marks = g.frontier_marks };
      history = record { numbers = g.history; marks = g.history_marks };
    }
