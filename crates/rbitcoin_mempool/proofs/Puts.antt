-- Laws of a new window's pair: where it lies, and that the parts of memory that the code reads are parts of the held hurdles. Assumes nothing.
use Rattle.std.proofs.Common.{◌≡◌, ℕ, zero, suc, ◌+◌, ◌-◌, ◌<◌, ◌≤◌, Bool, true, false, List, [], ◌∷◌, length, take, drop, set, sym, refl, ap, ◌∙◌, arith, take-take, drop-drop, le-leb}
use borrow.Author.Tests.{lt-leb}
use Rattle.slices.specs.Least.{least_of}
use Rattle.rbitcoin_mempool.specs.Median.{analog_lookback, ln_rate, lookback_part, median_of}
use Rattle.rbitcoin_mempool.specs.Pairs.{ahead_at, ahead_of, before_at}
use Rattle.rbitcoin_mempool.specs.Windows.{held, new_window, place, put, target_at}
use Rattle.rbitcoin_mempool.specs.declared.fee_analog.history.AnalogHistory.{AnalogHistory}
use lib.Ieee.{Float}
use Rattle.rbitcoin_mempool.proofs.Medians.{lookback-inside}
use Rattle.rbitcoin_mempool.proofs.Parts.{length-held}

pub lookback-least : (target : ℕ) → (3 ≤ analog_lookback target) × (analog_lookback target ≤ 144)
unfolding analog_lookback
lookback-least target = omega arith

pub ahead-least : (target : ℕ) → 1 ≤ ahead_of target
unfolding ahead_of
ahead-least target = omega arith

-- the new window has its lookback before it and ends within the held hurdles
pub window-lies : (newest : Bool) (count target : ℕ) → analog_lookback target + ahead_of target ≤ count
    → (analog_lookback target ≤ new_window newest count target) × (new_window newest count target + ahead_of target ≤ count)
window-lies true count target h = omega arith
window-lies false count target h = omega arith

-- a part of the first c elements
part-take : {A : Type 0} (ys : List A) (a m c : ℕ) → a + m ≤ c → take m (drop a (take c ys)) ≡ take m (drop a ys)
part-take ys zero m c h = take-take m c ys (omega arith)
part-take [] (suc a) m zero h = absurd (let f : ⊥ = omega arith in f)
part-take [] (suc a) m (suc c) h = refl
part-take (y ∷ ys) (suc a) m zero h = absurd (let f : ⊥ = omega arith in f)
part-take (y ∷ ys) (suc a) m (suc c) h = part-take ys a m c (omega arith)

pub held_part : (s : AnalogHistory) (hs : List ℕ) (a m : ℕ) → a + m ≤ s.count → take m (drop (s.start + a) hs) ≡ take m (drop a (held s hs))
unfolding held
held_part s hs a m h = sym (part-take (drop s.start hs) a m s.count h ∙ ap (take m) (drop-drop a s.start hs))

pub lookback-held : (s : AnalogHistory) (hs : List ℕ) (target t : ℕ) → analog_lookback target ≤ t → t ≤ s.count → s.start + s.count ≤ length hs
    → ln_rate (median_of (lookback_part hs (s.start + t) (analog_lookback target))) ≡ before_at (held s hs) target t
unfolding before_at
lookback-held s hs target t h g i =
    let n = analog_lookback target in
    let e : s.start + t - n ≡ s.start + (t - n) = omega arith in
    ap (λ l. ln_rate (median_of l))
    (lookback-inside hs (s.start + t) n (omega arith) (omega arith)
    ∙ rw e (held_part s hs (t - n) n (omega arith))
    ∙ sym (lookback-inside (held s hs) t n h (omega (arith, length-held s hs i))))

pub window-held : (s : AnalogHistory) (hs : List ℕ) (target t : ℕ) → t + ahead_of target ≤ s.count
    → least_of (take (ahead_of target) (drop (s.start + t) hs)) ≡ ahead_at (held s hs) target t
unfolding ahead_at
window-held s hs target t h = ap least_of (held_part s hs t (ahead_of target) h)

module _ {A : Type 0} (value : List ℕ → ℕ → ℕ → A) (newest : Bool) (s : AnalogHistory) (hs : List ℕ) (d : ℕ) (xs : List A) where
  pub put-none : s.count < analog_lookback (target_at s d) + ahead_of (target_at s d) → xs ≡ put value newest s hs d xs
  unfolding put
  put-none h = sym (rw (lt-leb _ _ h))

  pub put_some : (t : ℕ) (x : A) → analog_lookback (target_at s d) + ahead_of (target_at s d) ≤ s.count → t ≡ new_window newest s.count (target_at s d) → x ≡ value hs (target_at s d) t
      → set xs (place s d t) x ≡ put value newest s hs d xs
  unfolding put
  put_some t x h e v = sym (rw (le-leb _ _ h, ← e, ← v))

-- the new window's pair, as the code finds it in the lent hurdles
module _ (newest : Bool) (s : AnalogHistory) (hs ls : List ℕ) (d t : ℕ) (same : ls ≡ hs)
    (inside : s.start + s.count ≤ length hs) (enough : analog_lookback (target_at s d) + ahead_of (target_at s d) ≤ s.count) where
  pub before_put : (k m : ℕ) (r : Float) (xs : List Float) → t ≡ new_window newest s.count (target_at s d) → k ≡ analog_lookback (target_at s d)
      → m ≡ median_of (lookback_part ls (s.start + t) k) → r ≡ ln_rate m → set xs (place s d t) r ≡ put before_at newest s (held s hs) d xs
  before_put k m r xs e f g h =
      let l = window-lies newest s.count (target_at s d) enough in
      put_some before_at newest s (held s hs) d xs t r enough e
      (h ∙ ap ln_rate g ∙ rw (same, f) (lookback-held s hs (target_at s d) t (rw e l.0) (omega arith) inside))

  pub ahead_put : (k m : ℕ) (xs : List ℕ) → t ≡ new_window newest s.count (target_at s d) → k ≡ ahead_of (target_at s d)
      → m ≡ least_of (take k (drop (s.start + t) ls)) → set xs (place s d t) m ≡ put ahead_at newest s (held s hs) d xs
  ahead_put k m xs e f g =
      let l = window-lies newest s.count (target_at s d) enough in
      put_some ahead_at newest s (held s hs) d xs t m enough e (g ∙ rw (same, f) (window-held s hs (target_at s d) t (rw e l.1)))
