-- `rates` of a sound state is the Rust's, and leaves a sound state. Assumes nothing.
use Prim.Native.Nat.{ℕ, ◌+◌, ◌≤◌, ◌<◌}
use mathlib.Core.Path.{◌≡◌, refl, sym, ◌∙◌, ap, subst}
use mathlib.Core.Bool.{Bool, true, false, cond}
use mathlib.Core.List.{List, ◌++◌, map}
use mathlib.Core.Option.{Option, none, some}
use native.Mathlib.Omega.{arith}
use lib.Dec.{ltb, eqb}
use lib.Ieee.{Float}
use lib.ListN.{length, get_or, drop}
use borrow.Author.Tests.{lt-ltb, eq-eqb, ne_eqb}
use Rattle.slices.specs.Lists.{tabulate}
use Rattle.slices.proofs.Lists.{tabulate-at, tabulate-length, tabulate-same, map_table}
use Rattle.rbitcoin_mempool.specs.Reached.{SetUpAs as WindowsSetUpAs}
use Rattle.rbitcoin_mempool.specs.declared.fee_analog.history.AnalogHistory.{AnalogHistory}
use Rattle.rbitcoin_mempool.specs.Outcome.{verdict_of, done, refused}
use Rattle.rbitcoin_mempool.specs.Rates.{marked, rate_at, number_of, mark_of, numbers_of, marks_of}
use Rattle.rbitcoin_mempool.specs.Windows.{Windows, windows, held_in, target_at}
use Rattle.rbitcoin_mempool.proofs.Kept.{Good, good-stored}
use Rattle.rbitcoin_mempool.proofs.Reach.{tracked-rate}
use Rattle.rbitcoin_mempool.proofs.Rebuilds.{rebuild-done, rebuild_good, rebuilt-held}
use Rattle.rbitcoin_mempool.proofs.Refusals.{rebuilds, refusing}
use Rattle.rbitcoin_net.specs.History.{found, confidence_of, rate_for, hurdles_of, rebuilt, answered, keep, rates_answer, after_rates, set_rates, set_stale, set_hurdles}
use Rattle.rbitcoin_net.specs.Lent.{Rows, Hashes, row_at, held_rows, held_hashes, kept_rates, view, Sound}
use Rattle.rbitcoin_net.specs.Rates.{Rated, rated, windows_with, lent_to, refreshed, refreshed_in, rate_from, slots, keeping, answered_from, rates_in, answers_in, Outputs, refusal_for, AnswersRates}
use Rattle.rbitcoin_net.specs.Readers.{wrote}
use Rattle.rbitcoin_net.specs.declared.fee_history.FeeHistory.{FeeHistory}
use Rattle.rbitcoin_net.proofs.Pushed.{hurdles-few, sound_good}
use Rattle.rbitcoin_net.proofs.SetUps.{rates-set-up, refreshed-set-up}
use Rattle.std.proofs.lemmas.List.{length-map}
use Rattle.rbitcoin_net.proofs.Refusals.{Reach, Serves, serves, serves-lent, rates-fit}

-- ---- the state that `rates` leaves, by the code's branches

module _ (z : ℕ) (m : Rows) (x : Rated) where
  pub kept-answers : x.state.kept ≡ true → x ≡ rates_in z m x
  unfolding rates_in
  kept-answers k = sym (ap (λ b. cond b x (answered_from z (refreshed_in m x) x.state)) k)

  fresh-is : x.state.kept ≡ false → rates_in z m x ≡ answered_from z (refreshed_in m x) x.state
  unfolding rates_in
  fresh-is k = ap (λ b. cond b x (answered_from z (refreshed_in m x) x.state)) k

  pub fresh-answers : (a : AnalogHistory) (us : List ℕ) (bs : List Float) (ds ns ms : List ℕ) → x.state.kept ≡ false → windows a us bs ds ≡ refreshed_in m x
      → ns ≡ slots a.tracked (λ d. number_of (rate_from (windows a us bs ds) z d)) → ms ≡ slots a.tracked (λ d. mark_of (rate_from (windows a us bs ds) z d)) → rated (keeping a ns ms x.state) us bs ds ≡ rates_in z m x
  unfolding answered_from
  fresh-answers a us bs ds ns ms k e f g =
      (λ i. rated (keeping a (f i) (g i) x.state) us bs ds)
      ∙ ap (λ w. answered_from z w x.state) e
      ∙ sym (fresh-is k)

  pub fresh_tracked : (a : AnalogHistory) (us : List ℕ) (bs : List Float) (ds : List ℕ) → windows a us bs ds ≡ refreshed_in m x → a.tracked ≡ x.state.analog.tracked
  fresh_tracked a us bs ds e = ap (λ (w : Windows). w.state.tracked) e ∙ (refreshed-set-up x.state.analog_stale (held_rows m x.state) (windows_with x)).same_tracked

  pub fresh-scratch : (a : AnalogHistory) (us : List ℕ) (bs : List Float) (ds : List ℕ) → windows a us bs ds ≡ refreshed_in m x → ((d : ℕ) → d < x.state.analog.tracked → rate_from (refreshed_in m x) z d ≡ none) → (d : ℕ) → d < a.tracked → rate_from (windows a us bs ds) z d ≡ none
  fresh-scratch a us bs ds e h d l = ap (λ w. rate_from w z d) e ∙ h d (subst (λ n. d < n) (fresh_tracked a us bs ds e) l)

  pub rates_tracked : (y : Rated) → y ≡ rates_in z m x → y.state.analog.tracked ≡ x.state.analog.tracked
  rates_tracked y e = ap (λ (r : Rated). r.state.analog.tracked) e ∙ (rates-set-up z m x).same_windows.same_tracked

-- ---- kept rates are the rates

mark-back : (o : Option ℕ) → marked (number_of o) (mark_of o) ≡ o
mark-back (some r) = refl
mark-back none = refl

module _ (z : ℕ) (w : Windows) (s : FeeHistory) (few : w.state.tracked ≤ 16) where
  slot_at : (f : ℕ → ℕ) (d : ℕ) → d < w.state.tracked → get_or (slots w.state.tracked f) d 0 ≡ f d
  unfolding slots
  slot_at f d l = tabulate-at (λ k. cond (ltb k w.state.tracked) (f k) 0) 0 16 d (omega arith) ∙ ap (λ b. cond b (f d) 0) (lt-ltb _ _ l)

  pub kept_are : answers_in (answered_from z w s).state ≡ tabulate (rate_from w z) 0 w.state.tracked
  unfolding answers_in answered_from
  kept_are =
      tabulate-same (rate_at (slots w.state.tracked (λ d. number_of (rate_from w z d))) (slots w.state.tracked (λ d. mark_of (rate_from w z d)))) (rate_from w z) 0 w.state.tracked
      (λ d u v. (λ i. marked (slot_at (λ k. number_of (rate_from w z k)) d (omega arith) i) (slot_at (λ k. mark_of (rate_from w z k)) d (omega arith) i)) ∙ mark-back (rate_from w z d))

  module _ (g : Good w) (y : w.state.capacity ≤ z) where
    rate-is : (d : ℕ) → d < w.state.tracked → rate_from w z d ≡ rate_for (held_in w) (target_at w.state d)
    unfolding rate_from rate_for
    rate-is d l = ap found (tracked-rate w g d z (confidence_of (target_at w.state d)) l y)

    pub kept-rates : answers_in (answered_from z w s).state ≡ map (rate_for (held_in w)) (tabulate (target_at w.state) 0 w.state.tracked)
    kept-rates =
        kept_are
        ∙ tabulate-same (rate_from w z) (λ d. rate_for (held_in w) (target_at w.state d)) 0 w.state.tracked (λ d u v. rate-is d (omega arith))
        ∙ sym (map_table (rate_for (held_in w)) (target_at w.state) 0 w.state.tracked)

-- ---- the windows of a sound state, not stale then

module _ (m : Rows) (z : Hashes) (x : Rated) (k : Sound x.state (lent_to m z x)) where
  abbrev s : FeeHistory
  s = x.state

  rates-few : length (hurdles_of (held_rows m x.state)) ≤ x.state.analog.capacity
  unfolding held_rows
  rates-few =
      let v = (serves x.state (lent_to m z x) k.lent).rows-within in
      let l = hurdles-few (held_rows m x.state) in
      let e : length (held_rows m x.state) ≡ x.state.count = tabulate-length (row_at m) x.state.start x.state.count in
      omega arith

  -- held and good, by the stale mark
  pub record Refreshed (b : Bool) (w : Windows) : Type 0 where
    pub good : Good w
    pub holds : held_in w ≡ hurdles_of (held_rows m x.state)

  by-stale : (b : Bool) → x.state.analog_stale ≡ b → Refreshed b (refreshed b (held_rows m x.state) (windows_with x))
  unfolding refreshed
  by-stale true e =
      let v = (serves x.state (lent_to m z x) k.lent).windows in
      let r = rebuilds x.state.analog (length x.hurdles) (length x.befores) (length x.aheads) v (length (hurdles_of (held_rows m x.state))) rates-few in
      let d = rebuild-done (hurdles_of (held_rows m x.state)) (windows_with x) r in
      record {
        good = subst Good (sym d) (rebuild_good (hurdles_of (held_rows m x.state)) (windows_with x) (sound_good x.state (lent_to m z x) k));
        holds = ap held_in d ∙ rebuilt-held (hurdles_of (held_rows m x.state)) (windows_with x) r;
      }
  by-stale false e = record { good = sound_good x.state (lent_to m z x) k; holds = k.hurdles e }

  pub refreshed_holds : Refreshed x.state.analog_stale (refreshed_in m x)
  refreshed_holds = by-stale x.state.analog_stale refl

  abbrev w : Windows
  w = refreshed_in m x

  abbrev left : ℕ → Rated
  left p = answered_from p (refreshed_in m x) x.state

  w-set-up : WindowsSetUpAs x.state.analog (refreshed_in m x).state
  w-set-up = refreshed-set-up x.state.analog_stale (held_rows m x.state) (windows_with x)

  left-serves : (p : ℕ) → Serves (left p).state (lent_to m z (left p))
  unfolding answered_from
  left-serves p =
      let v = serves x.state (lent_to m z x) k.lent in
      let c = w-set-up.same_capacity in
      record {
        rows-within = subst (λ n. x.state.start + x.state.count ≤ n) (sym c) v.rows-within;
        hashes-few = v.hashes-few;
        rows-reach = subst (λ n. Reach n (length m.heights) (length m.marks) (length m.rates) (length m.sizes)) (sym c) v.rows-reach;
        heights-reach = v.heights-reach;
        bytes-reach = v.bytes-reach;
        windows = refreshed_holds.good.valid;
      }

  left-sound : (p : ℕ) → Sound (left p).state (lent_to m z (left p))
  unfolding answered_from held_rows
  left-sound p = record {
    lent = serves-lent (left p).state (lent_to m z (left p)) (left-serves p);
    ascends = k.ascends;
    hashes_ascend = k.hashes_ascend;
    stored = good-stored (refreshed_in m x) refreshed_holds.good;
    hurdles = λ e. refreshed_holds.holds;
  }

  -- what the Rust's rebuild holds
  rebuilt-hurdles : (b : Bool) → x.state.analog_stale ≡ b → (cond b (set_stale false (set_hurdles (hurdles_of (view x.state (lent_to m z x)).blocks) (view x.state (lent_to m z x)))) (view x.state (lent_to m z x))).hurdles ≡ hurdles_of (held_rows m x.state)
  unfolding view
  rebuilt-hurdles true e = refl
  rebuilt-hurdles false e = k.hurdles e

  rebuilt_holds : (rebuilt (view x.state (lent_to m z x))).hurdles ≡ hurdles_of (held_rows m x.state)
  unfolding rebuilt view
  rebuilt_holds = rebuilt-hurdles x.state.analog_stale refl

  module _ (p : ℕ) (y : x.state.analog.capacity ≤ p) where
    few : (refreshed_in m x).state.tracked ≤ 16
    few = refreshed_holds.good.valid.few

    targets-same : tabulate (target_at (refreshed_in m x).state) 0 (refreshed_in m x).state.tracked ≡ tabulate (target_at x.state.analog) 0 x.state.analog.tracked
    targets-same = λ i. tabulate (λ d. get_or (w-set-up.same_targets i) d 0) 0 (w-set-up.same_tracked i)

    left-answers : answers_in (left p).state ≡ answered none (view x.state (lent_to m z x))
    unfolding view
    left-answers =
        kept-rates p (refreshed_in m x) x.state few refreshed_holds.good (subst (λ n. n ≤ p) (sym w-set-up.same_capacity) y)
        ∙ (λ i. map (rate_for ((refreshed_holds.holds ∙ sym rebuilt_holds) i)) (targets-same i))

    left-view : view (left p).state (lent_to m z (left p)) ≡ keep none (view x.state (lent_to m z x))
    unfolding view answered_from held_rows rebuilt kept_rates answers_in
    left-view = by x.state.analog_stale refl
      where
        by : (b : Bool) → x.state.analog_stale ≡ b → view (left p).state (lent_to m z (left p)) ≡ set_rates (some (answered none (view x.state (lent_to m z x)))) (cond b (set_stale false (set_hurdles (hurdles_of (view x.state (lent_to m z x)).blocks) (view x.state (lent_to m z x)))) (view x.state (lent_to m z x)))
        by true e = λ i. record {
          blocks = held_rows m x.state;
          total = x.state.txstat_bytes;
          budget = x.state.budget;
          targets = targets-same i;
          hashes = held_hashes z x.state;
          hurdles = refreshed_holds.holds i;
          stale = false;
          rates = some (left-answers i);
        }
        by false e = λ i. record {
          blocks = held_rows m x.state;
          total = x.state.txstat_bytes;
          budget = x.state.budget;
          targets = targets-same i;
          hashes = held_hashes z x.state;
          hurdles = (refreshed_holds.holds ∙ sym (k.hurdles e)) i;
          stale = sym e i;
          rates = some (left-answers i);
        }

    -- by the kept mark
    answers_by : (b : Bool) → x.state.kept ≡ b → answers_in (cond b x (left p)).state ≡ rates_answer (view x.state (lent_to m z x))
    unfolding rates_answer view kept_rates answers_in
    answers_by true e = sym (ap (λ c. answered (cond c (some (answers_in x.state)) none) (view x.state (lent_to m z x))) e)
    answers_by false e = left-answers ∙ sym (ap (λ c. answered (cond c (some (answers_in x.state)) none) (view x.state (lent_to m z x))) e)

    view-by : (b : Bool) → x.state.kept ≡ b → view (cond b x (left p)).state (lent_to m z (cond b x (left p))) ≡ after_rates (view x.state (lent_to m z x))
    unfolding after_rates view kept_rates answers_in
    view-by true e = sym (ap (λ c. keep (cond c (some (answers_in x.state)) none) (view x.state (lent_to m z x))) e)
    view-by false e = left-view ∙ sym (ap (λ c. keep (cond c (some (answers_in x.state)) none) (view x.state (lent_to m z x))) e)

    pub rates-answers : answers_in (rates_in p m x).state ≡ rates_answer (view x.state (lent_to m z x))
    unfolding rates_in
    rates-answers = answers_by x.state.kept refl

    pub rates-means : view (rates_in p m x).state (lent_to m z (rates_in p m x)) ≡ after_rates (view x.state (lent_to m z x))
    unfolding rates_in
    rates-means = view-by x.state.kept refl

  pub rates-sound : (p : ℕ) → Sound (rates_in p m x).state (lent_to m z (rates_in p m x))
  unfolding rates_in
  rates-sound p = by x.state.kept
    where
      by : (b : Bool) → Sound (cond b x (left p)).state (lent_to m z (cond b x (left p)))
      by true = k
      by false = left-sound p

-- ---- the contract, refused and done

module _ (m : Rows) (x : Rated) (o : Outputs) where
  pub rates-refused : (k : ℕ) → k ≡ refusal_for m x o → (k ≡ 0 → ⊥) → AnswersRates m x o (refused k) x o
  unfolding wrote
  rates-refused k e n =
      let r : refusal_for m x o ≡ 0 → ⊥ = λ y. n (e ∙ y) in
      let f : eqb (refusal_for m x o) 0 ≡ false = ne_eqb _ 0 r in
      record {
        outcome = ap refused e ∙ refusing (refusal_for m x o) r;
        is = sym (ap (λ b. cond b (rates_in (length o.scratch) m x) x) f);
        numbers = sym (ap (λ b. cond b (numbers_of (answers_in x.state) ++ drop (length (numbers_of (answers_in x.state))) o.numbers) o.numbers) f);
        marks = sym (ap (λ b. cond b (marks_of (answers_in x.state) ++ drop (length (marks_of (answers_in x.state))) o.marks) o.marks) f);
        scratch = record { long = refl; refused = λ y. refl; kept = λ y. refl; nothing = λ y. refl };
        answers = λ z y t. absurd (r t);
        means = λ z y t. absurd (r t);
        sound = λ z y. y;
      }

  module _ (y : Rated) (q : Outputs) (e : refusal_for m x o ≡ 0) (d : y ≡ rates_in (length o.scratch) m x) where
    numbers-long : length (numbers_of (answers_in y.state)) ≡ y.state.analog.tracked
    unfolding answers_in
    numbers-long = length-map (answers_in y.state) number_of ∙ tabulate-length _ 0 y.state.analog.tracked

    marks-long : length (marks_of (answers_in y.state)) ≡ y.state.analog.tracked
    unfolding answers_in
    marks-long = length-map (answers_in y.state) mark_of ∙ tabulate-length _ 0 y.state.analog.tracked

    pub rates-done : q.numbers ≡ numbers_of (answers_in y.state) ++ drop y.state.analog.tracked o.numbers → q.marks ≡ marks_of (answers_in y.state) ++ drop y.state.analog.tracked o.marks
        → length q.scratch ≡ length o.scratch → (x.state.kept ≡ true → q.scratch ≡ o.scratch) → (((d : ℕ) → d < x.state.analog.tracked → rate_from (refreshed_in m x) (length o.scratch) d ≡ none) → q.scratch ≡ o.scratch) → AnswersRates m x o done y q
    unfolding wrote verdict_of
    rates-done f g l a b =
        let t : eqb (refusal_for m x o) 0 ≡ true = eq-eqb _ 0 e in
        let v = rates-fit x.state _ _ _ _ _ _ _ _ _ _ e in
        record {
          outcome = ap verdict_of (sym e);
          is = d ∙ sym (ap (λ c. cond c (rates_in (length o.scratch) m x) x) t);
          numbers = f ∙ ap (λ n. numbers_of (answers_in y.state) ++ drop n o.numbers) (sym numbers-long) ∙ sym (ap (λ c. cond c (numbers_of (answers_in y.state) ++ drop (length (numbers_of (answers_in y.state))) o.numbers) o.numbers) t);
          marks = g ∙ ap (λ n. marks_of (answers_in y.state) ++ drop n o.marks) (sym marks-long) ∙ sym (ap (λ c. cond c (marks_of (answers_in y.state) ++ drop (length (marks_of (answers_in y.state))) o.marks) o.marks) t);
          scratch = record { long = l; refused = λ n. absurd (n e); kept = a; nothing = b };
          answers = λ z k u. ap (λ (r : Rated). answers_in r.state) d ∙ rates-answers m z x k (length o.scratch) v.scratch;
          means = λ z k u. ap (λ (r : Rated). view r.state (lent_to m z r)) d ∙ rates-means m z x k (length o.scratch) v.scratch;
          sound = λ z k. subst (λ (r : Rated). Sound r.state (lent_to m z r)) (sym d) (rates-sound m z x k (length o.scratch));
        }
