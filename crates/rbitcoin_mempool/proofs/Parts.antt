-- Laws of the held hurdles and of the pairs of a list of hurdles, as hurdles come and go at either end. Assumes nothing.
use Rattle.std.proofs.Common.{◌≡◌, ℕ, suc, ◌+◌, ◌-◌, ◌<◌, ◌≤◌, List, [], ◌∷◌, ◌++◌, length, get_or, take, drop, set, sym, refl, ap, ◌∙◌, add-one, arith, length-append, length-drop, length-set, length-take-le, drop-cons, take-suc, get_or-set_same, take-suc-set, drop-set-lt}
use lib.Seq.{take-append-le, drop-append-le, drop-set-add}
use Rattle.slices.specs.Least.{least_of}
use Rattle.slices.specs.Lists.{moved}
use Rattle.slices.proofs.Runs.{moved_part}
use Rattle.rbitcoin_mempool.specs.Median.{analog_lookback, ln_rate, median_of}
use Rattle.rbitcoin_mempool.specs.Pairs.{ahead_at, ahead_of, before_at}
use Rattle.rbitcoin_mempool.specs.Windows.{at, held}
use Rattle.rbitcoin_mempool.specs.declared.fee_analog.history.AnalogHistory.{AnalogHistory}
use Rattle.rbitcoin_mempool.proofs.Medians.{lookback-inside}

module _ (s : AnalogHistory) (hs : List ℕ) where
  pub length-held : s.start + s.count ≤ length hs → length (held s hs) ≡ s.count
  unfolding held
  length-held h = length-take-le s.count (drop s.start hs) (rw length-drop (omega arith))

  pub held_moved : (to : ℕ) → to + s.count ≤ length hs → s.start + s.count ≤ length hs → held (at s to s.count) (moved hs to s.start s.count) ≡ held s hs
  unfolding held
  held_moved to h g = moved_part hs to s.start s.count 0 h g

  -- one more at either end
  pub held_back : (x : ℕ) → s.start + s.count < length hs → held (at s s.start (s.count + 1)) (set hs (s.start + s.count) x) ≡ held s hs ++ (x ∷ [])
  unfolding held
  held_back x h =
      let e : drop s.start (set hs (s.start + s.count) x) ≡ set (drop s.start hs) s.count x = drop-set-add s.start hs s.count x in
      rw (e, add-one) (take-suc-set (drop s.start hs) s.count x (rw length-drop (omega arith)))

  pub held_front : (x : ℕ) → 0 < s.start → s.start ≤ length hs → held (at s (s.start - 1) (s.count + 1)) (set hs (s.start - 1) x) ≡ x ∷ held s hs
  unfolding held
  held_front x p h =
      let e : suc (s.start - 1) ≡ s.start = omega arith in
      let d : drop (s.start - 1) (set hs (s.start - 1) x) ≡ x ∷ drop s.start hs
      = drop-cons (set hs (s.start - 1) x) (s.start - 1) x (rw length-set (omega arith))
      ∙ rw (get_or-set_same hs (s.start - 1) x x (omega arith), e, drop-set-lt s.start hs (s.start - 1) x (omega arith)) in
      rw (add-one, d)

  -- one fewer at either end
  pub held_all-back : 0 < s.count → s.start + s.count ≤ length hs → held s hs ≡ held (at s s.start (s.count - 1)) hs ++ (get_or (drop s.start hs) (s.count - 1) 0 ∷ [])
  unfolding held
  held_all-back p h =
      let e : s.count ≡ suc (s.count - 1) = omega arith in
      ap (λ (n : ℕ). take n (drop s.start hs)) e ∙ take-suc (drop s.start hs) (s.count - 1) 0 (rw length-drop (omega arith))

  pub held_all_front : 0 < s.count → s.start + s.count ≤ length hs → held s hs ≡ get_or hs s.start 0 ∷ held (at s (s.start + 1) (s.count - 1)) hs
  unfolding held
  held_all_front p h =
      let e : s.count ≡ suc (s.count - 1) = omega arith in
      ap (λ (n : ℕ). take n (drop s.start hs)) e ∙ rw (drop-cons hs s.start 0 (omega arith), add-one)

-- a part of a longer list
part-grown : (hs ys : List ℕ) (a m : ℕ) → a + m ≤ length hs → take m (drop a (hs ++ ys)) ≡ take m (drop a hs)
part-grown hs ys a m h = ap (take m) (drop-append-le a hs ys (omega arith)) ∙ take-append-le m (drop a hs) ys (rw length-drop (omega arith))

-- a value of the window at t, which goes by the lookback and the window alone
pub record Windowed {A : Type 0} (value : List ℕ → ℕ → ℕ → A) : Type 0 where
  pub behind : (hs : List ℕ) (x target t : ℕ) → analog_lookback target ≤ t → t + ahead_of target ≤ length hs → value (hs ++ (x ∷ [])) target t ≡ value hs target t
  pub before : (hs : List ℕ) (x target t : ℕ) → analog_lookback target ≤ t → t + ahead_of target ≤ length hs → value (x ∷ hs) target (suc t) ≡ value hs target t

-- a lookback that lies in the list
lookback : (hs : List ℕ) (target t : ℕ) → analog_lookback target ≤ t → t ≤ length hs
    → before_at hs target t ≡ ln_rate (median_of (take (analog_lookback target) (drop (t - analog_lookback target) hs)))
unfolding before_at
lookback hs target t p q = ap (λ l. ln_rate (median_of l)) (lookback-inside hs t (analog_lookback target) p q)

pub before_windowed : Windowed before_at
before_windowed =
    record {
      behind =
          λ hs x target t p q. lookback (hs ++ (x ∷ [])) target t p (omega (arith, length-append hs (x ∷ [])))
          ∙ ap (λ l. ln_rate (median_of l)) (part-grown hs (x ∷ []) (t - analog_lookback target) (analog_lookback target) (omega arith))
          ∙ sym (lookback hs target t p (omega arith));
      before =
          λ hs x target t p q. let e : suc t - analog_lookback target ≡ suc (t - analog_lookback target) = omega arith in
          lookback (x ∷ hs) target (suc t) (omega arith) (omega arith) ∙ rw e (sym (lookback hs target t p (omega arith)));
    }

pub ahead_windowed : Windowed ahead_at
unfolding ahead_at
ahead_windowed =
    record {
      behind = λ hs x target t p q. ap least_of (part-grown hs (x ∷ []) t (ahead_of target) q);
      before = λ hs x target t p q. refl;
    }
