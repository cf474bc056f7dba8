-- Demand 3, proved about the definitions that the contracts of the loop and of the lookup equate with. Assumes nothing.
use Rattle.std.proofs.Common.{◌≡◌, ℕ, suc, ◌-◌, ◌^◌, ◌<◌, ◌≤◌, min, Bool, true, false, cond, eqb, leb, List, length, get_or, sym, refl, ap, ◌∙◌, subst, arith, eq-eqb, eqb-true, le-leb}
use mathlib.Core.Option.{Option, none, some}
use borrow.Author.Tests.{eqb-false}
use Rattle.slices.specs.Lists.{tabulate}
use Rattle.slices.proofs.Every.{every_true}
use Rattle.slices.proofs.Lists.{tabulate-length}
use Rattle.rbitcoin_mempool.specs.Answer.{Answer, rate}
use Rattle.rbitcoin_mempool.specs.Answer.{none as nothing}
use Rattle.rbitcoin_mempool.specs.Rates.{as_answer, rate_at, marks_valid, numbers_of, marks_of}
use Rattle.rbitcoin_mempool.specs.Hold.{Args, published_at, depth_rates, never_descends, same_lengths, input_marks, loop_refusal, loop_numbers, loop_marks}
use Rattle.rbitcoin_mempool.specs.Target.{at_target, lerp_sat_kvb, fee_at_target, fee_at_target_sat_kvb}
use Rattle.rbitcoin_mempool.specs.Exact.{Frac, lesser_frac, Within, Both, BoundedRate, exact_at, exact_rates, least_so_far, exact_line, exact_point}
use Rattle.rbitcoin_mempool.specs.Demand3 as D
use Rattle.rbitcoin_mempool.specs.Demand3.{Bounded, Premises, Accurate, Demand3}
use Rattle.rbitcoin_mempool.proofs.Passes.{mark-at, ascending_of}
use Rattle.rbitcoin_mempool.proofs.Publishing.{and_both, passed, agreed}
use Rattle.rbitcoin_mempool.proofs.Published.{bounded_flow, published-beside}
use Rattle.rbitcoin_mempool.proofs.Places.{Ascending, answer-is, place}
use Rattle.rbitcoin_mempool.proofs.Quotes.{Beside, Falls, quote-beside, quote-order}
use Rattle.rbitcoin_mempool.proofs.RateLists.{numbers-length, marks-length, rates-again, marks-again}
use Rattle.rbitcoin_mempool.proofs.Runs.{AtMost, Each, least_each, min_near, least-length, tabulate_each, hold-is, falls}

-- ---- the premises as the tests put them
marks_are : (ns ms : List ℕ) → Bounded ns ms → marks_valid ms ≡ true
unfolding marks_valid
marks_are ns ms h = every_true (λ i. leb (get_or ms i 0) 1) (length ms) (λ k l. le-leb _ _ (h k l).0)

pub ascends_are : (ds : List ℕ) → Ascending ds → never_descends ds ≡ true
unfolding never_descends
ascends_are ds up = every_true (λ i. leb (get_or ds i 0) (get_or ds (suc i) 0)) (length ds - 1) (λ k l. le-leb _ _ (up k (suc k) (omega arith) (omega arith)))

bounded_at : (ns ms : List ℕ) (i : ℕ) → i < length ms → Bounded ns ms → BoundedRate (rate_at ns ms i)
bounded_at ns ms i l h = go (eqb (get_or ms i 0) 1) refl
  where
    go : (b : Bool) → eqb (get_or ms i 0) 1 ≡ b → BoundedRate (cond b (some (get_or ns i 0)) none)
    go true e = (h i l).1 (eqb-true _ _ e)
    go false e = tt

module _ (a : Args) (out out_marks : ℕ) (pre : Premises a out out_marks) where
  pub accepted : loop_refusal a out out_marks ≡ none
  unfolding loop_refusal same_lengths input_marks
  accepted =
      rw (
        eq-eqb _ _ pre.lengths.projected,
        eq-eqb _ _ pre.lengths.projected_marks,
        eq-eqb _ _ pre.lengths.frontier,
        eq-eqb _ _ pre.lengths.frontier_marks,
        eq-eqb _ _ pre.lengths.history,
        eq-eqb _ _ pre.lengths.history_marks,
        eq-eqb _ _ pre.lengths.output,
        eq-eqb _ _ pre.lengths.output_marks,
        marks_are a.projected a.projected_marks pre.projected,
        marks_are a.frontier a.frontier_marks pre.frontier,
        marks_are a.history a.history_marks pre.history,
        ascends_are a.depths pre.ascending,
      )

  module _ (fits : (i : ℕ) → i < length a.depths → get_or a.depths i 0 < 2 ^ 32) where
    abbrev n : ℕ
    n = length a.depths

    at_depth : (i : ℕ) → i < n → Both (Within 2) (published_at a i) (exact_at a i)
    unfolding published_at exact_at
    at_depth i l =
        let F = bounded_at a.frontier a.frontier_marks i (omega (arith, pre.lengths.frontier_marks)) pre.frontier in
        let P = bounded_at a.projected a.projected_marks i (omega (arith, pre.lengths.projected_marks)) pre.projected in
        let H = bounded_at a.history a.history_marks i (omega (arith, pre.lengths.history_marks)) pre.history in
        published-beside (get_or a.depths i 0) (omega (arith, fits i l)) a.alpha _ _ _ a.confirm (bounded_flow _ _ _ P F) F H pre.confirm

    abbrev rates : List (Option ℕ)
    rates = tabulate (published_at a) 0 n

    least-rates : depth_rates a ≡ least_so_far min none rates
    unfolding depth_rates
    least-rates = hold-is rates

    each : Each (Within 2) (depth_rates a) (exact_rates a)
    unfolding exact_rates
    each =
        rw least-rates
        (least_each (Within 2) min lesser_frac min_near none none rates (tabulate (exact_at a) 0 n) tt (tabulate_each (Within 2) (published_at a) (exact_at a) 0 n (λ k g h. at_depth k (omega arith))))

    size : length (depth_rates a) ≡ n
    size = ap length least-rates ∙ least-length min none rates ∙ tabulate-length (published_at a) 0 n

    falling : Falls (depth_rates a)
    falling i j m l k e =
        let q : j < length rates = omega (arith, size, tabulate-length (published_at a) 0 n) in
        subst (λ (os : List (Option ℕ)). AtMost m (get_or os j none)) (sym least-rates) (falls none rates i j m l q (rw least-rates at e))

    abbrev numbers : List ℕ
    numbers = numbers_of (depth_rates a)

    abbrev marks : List ℕ
    marks = marks_of (depth_rates a)

    lookup : ℕ → Answer
    lookup t = fee_at_target_sat_kvb a.depths numbers marks t

    same : eqb (length numbers) (length marks) ≡ true
    same = eq-eqb _ _ (numbers-length (depth_rates a) ∙ sym (marks-length (depth_rates a)))

    whole : eqb n (length numbers) ≡ true
    whole = eq-eqb _ _ (sym (numbers-length (depth_rates a) ∙ size))

    -- the lookup at the lists that the loop leaves
    lookup-is : (t : ℕ) → lookup t ≡ cond (eqb n 0) nothing (as_answer (fee_at_target a.depths (depth_rates a) t))
    unfolding lookup fee_at_target_sat_kvb
    lookup-is t = go (eqb n 0) refl
      where
        go : (b : Bool) → eqb n 0 ≡ b → fee_at_target_sat_kvb a.depths numbers marks t ≡ cond b nothing (as_answer (fee_at_target a.depths (depth_rates a) t))
        go true e = rw (same, e)
        go false e = rw (same, e, whole, marks-again (depth_rates a), ascends_are a.depths pre.ascending, rates-again (depth_rates a))

    beside_of : (o : Option ℕ) (p : Option Frac) → Both Beside o p → D.Beside (as_answer o) p
    beside_of none none h = tt
    beside_of none (some p) h = h
    beside_of (some q) none h = h
    beside_of (some q) (some p) h = h

    some_depth : eqb n 0 ≡ false → 0 < n
    some_depth e = above n (eqb-false n 0 e)
      where
        above : (m : ℕ) → (m ≡ 0 → ⊥) → 0 < m
        above m h = omega arith

    beside : (t : ℕ) → D.Beside (lookup t) (exact_point a t)
    unfolding exact_point fee_at_target
    beside t = subst (λ (x : Answer). D.Beside x (exact_point a t)) (sym (lookup-is t)) (go (eqb n 0) refl)
      where
        go : (b : Bool) → eqb n 0 ≡ b → D.Beside (cond b nothing (as_answer (fee_at_target a.depths (depth_rates a) t))) (cond b none (at_target (exact_line t) a.depths (exact_rates a) t))
        go true e = tt
        go false e =
            let ds = a.depths in
            let p = place ds t (some_depth e) in
            beside_of (fee_at_target ds (depth_rates a) t) (at_target (exact_line t) ds (exact_rates a) t)
            (rw (answer-is (λ d0 l d1 r. lerp_sat_kvb d0 l d1 r t) ds (depth_rates a) t pre.ascending p, answer-is (exact_line t) ds (exact_rates a) t pre.ascending p)
            (quote-beside ds (depth_rates a) pre.ascending size falling (exact_rates a) each t p))

    -- a target that has a quote
    quoted : (t q : ℕ) → lookup t ≡ rate q → (0 < n) × (fee_at_target a.depths (depth_rates a) t ≡ some q)
    quoted t q h = go (eqb n 0) refl (sym (lookup-is t) ∙ h)
      where
        answered : (o : Option ℕ) → as_answer o ≡ rate q → o ≡ some q
        answered none e = let z : ◌≡◌ {A = ℕ} 0 1 = cc in absurd (omega arith)
        answered (some r) e = cc

        go : (b : Bool) → eqb n 0 ≡ b → cond b nothing (as_answer (fee_at_target a.depths (depth_rates a) t)) ≡ rate q → (0 < n) × (fee_at_target a.depths (depth_rates a) t ≡ some q)
        go true e f = let z : ◌≡◌ {A = ℕ} 0 1 = cc in absurd (omega arith)
        go false e f = (some_depth e, answered (fee_at_target a.depths (depth_rates a) t) f)

    order : (near far q r : ℕ) → near ≤ far → lookup near ≡ rate q → lookup far ≡ rate r → r ≤ q
    unfolding fee_at_target
    order near far q r l h k =
        let ds = a.depths in
        let x = quoted near q h in
        let y = quoted far r k in
        let p = place ds near x.0 in
        let p' = place ds far y.0 in
        quote-order ds (depth_rates a) pre.ascending size falling near far q r p p' l
        (sym (answer-is (λ d0 l d1 r. lerp_sat_kvb d0 l d1 r near) ds (depth_rates a) near pre.ascending p) ∙ x.1)
        (sym (answer-is (λ d0 l d1 r. lerp_sat_kvb d0 l d1 r far) ds (depth_rates a) far pre.ascending p') ∙ y.1)

    pub accurate : Accurate a numbers marks
    unfolding lookup
    accurate = record { beside = beside; order = order }

-- the loop of depths that are u32
pub demand3 : (a : Args) (out out_marks : List ℕ) → ((i : ℕ) → i < length a.depths → get_or a.depths i 0 < 2 ^ 32) → Demand3 a (length out) (length out_marks) (loop_numbers a out out_marks) (loop_marks a out out_marks)
unfolding loop_numbers loop_marks
demand3 a out out_marks fits pre = let e = accepted a (length out) (length out_marks) pre in (e, rw e (accurate a (length out) (length out_marks) pre fits))

-- ---- the premises are no more than that the loop refuses nothing and each rate is missing or at most 2 ^ 50
bounded_of : (ns ms : List ℕ) → marks_valid ms ≡ true → ((i : ℕ) → BoundedRate (rate_at ns ms i)) → Bounded ns ms
bounded_of ns ms v h i l = (mark-at ms i v l, λ e. rw (eq-eqb (get_or ms i 0) 1 e) at (h i))

pub premises_of : (a : Args) (out out_marks : ℕ) → loop_refusal a out out_marks ≡ none
    → ((i : ℕ) → BoundedRate (rate_at a.projected a.projected_marks i))
    → ((i : ℕ) → BoundedRate (rate_at a.frontier a.frontier_marks i))
    → ((i : ℕ) → BoundedRate (rate_at a.history a.history_marks i))
    → BoundedRate a.confirm
    → Premises a out out_marks
unfolding input_marks
premises_of a out out_marks e p f h c =
    let t = passed a out out_marks e in
    let m = and_both (marks_valid a.projected_marks) _ t.marks in
    let n = and_both (marks_valid a.frontier_marks) _ m.1 in
    record {
      lengths = agreed a out out_marks e;
      ascending = ascending_of a.depths t.depths;
      projected = bounded_of a.projected a.projected_marks m.0 p;
      frontier = bounded_of a.frontier a.frontier_marks n.0 f;
      history = bounded_of a.history a.history_marks n.1 h;
      confirm = c;
    }
