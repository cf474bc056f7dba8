-- Laws of a scan: the parts of memory that hold a target's pairs, and its answer by the tests that the code makes. Assumes nothing.
use Rattle.std.proofs.Common.{◌≡◌, ℕ, zero, suc, ◌+◌, ◌-◌, ◌*◌, ◌<◌, ◌≤◌, Bool, true, false, ◌&&◌, eqb, leb, List, ◌∷◌, length, get_or, take, drop, sym, refl, ap, ◌∙◌, ap₂, arith, length-drop, length-take-le, le-ltb, lt-ltb, eqb-true, le-leb}
use Rattle.std.specs.Prelude.{Ok, Err}
use Rattle.std.specs.Result.{IsErrAnd}
use Rattle.std.specs.declared.result.Result.{Result}
use Rattle.rbitcoin_mempool.specs.declared.answer.Refusal.{Refusal}
use Rattle.rbitcoin_mempool.specs.Refusal.{number}
use Rattle.rbitcoin_mempool.specs.Counted.{counted}
use Rattle.rbitcoin_mempool.specs.Answer.{answer}
use Rattle.std.specs.declared.option.Option.{Option}
use Rattle.rbitcoin_mempool.proofs.Refusals.{some_number}
use lib.Ieee.{Float, nan}
use borrow.Author.Tests.{lt-leb}
use Rattle.slices.specs.Lists.{tabulate}
use Rattle.slices.proofs.Lists.{part_offset, tabulate-length, tabulate-same}
use Rattle.slices.proofs.Seeking.{sought}
use Rattle.rbitcoin_mempool.specs.Answer.{Answer, none, rate, refusal}
use Rattle.rbitcoin_mempool.specs.Counted as counts
use Rattle.rbitcoin_mempool.specs.Counted.{counted_of}
use Rattle.rbitcoin_mempool.specs.Median.{analog_lookback, ln_rate, lookback_part, median_of}
use Rattle.rbitcoin_mempool.specs.Nearest.{neighbors, paired}
use Rattle.rbitcoin_mempool.specs.Pairs.{ahead_at, ahead_of, before_at, pair_at, pairs_of, windows_in}
use Rattle.rbitcoin_mempool.specs.Quantile.{in_unit, quantile_of}
use Rattle.rbitcoin_mempool.specs.Scan.{answer_after, now_of, rate_among, rate_in}
use Rattle.rbitcoin_mempool.specs.Windows.{Valid, Windows, find_target, held, held_in, pair_count, place, stored_at, stored_pairs, target_at}
use Rattle.rbitcoin_mempool.specs.declared.fee_analog.history.AnalogHistory.{AnalogHistory}
use Rattle.rbitcoin_mempool.proofs.Parts.{length-held}
use Rattle.rbitcoin_mempool.proofs.Puts.{ahead-least, lookback-held}
use Rattle.rbitcoin_mempool.proofs.Regions.{region, region-fits}

paired-tables : (f : ℕ → Float) (g : ℕ → ℕ) (i n : ℕ) → paired (tabulate f i n) (tabulate g i n) ≡ tabulate (λ k. record { before = f k; ahead = g k }) i n
unfolding paired tabulate
paired-tables f g i zero = refl
paired-tables f g i (suc n) = ap (λ l. record { before = f i; ahead = g i } ∷ l) (paired-tables f g (suc i) n)

-- ---- where the pairs of target number d lie, n of them, in memory of these sizes and a scratch list of z places
pub record Lying (s : AnalogHistory) (d h b a z first n : ℕ) : Type 0 where
  pub fits : first + n ≤ 1048576
  pub in-befores : first + n ≤ b
  pub in-aheads : first + n ≤ a
  pub in-scratch : n ≤ z
  pub lookback-before : analog_lookback (target_at s d) ≤ s.count
  pub in-hurdles : s.start + s.count ≤ h

pub lying : (s : AnalogHistory) (d h b a z lookback n : ℕ) → Valid s h b a → d < s.tracked → 200 ≤ windows_in s.count (target_at s d) → s.capacity ≤ z
    → lookback ≡ analog_lookback (target_at s d) → n ≡ windows_in s.count (target_at s d) → Lying s d h b a z (d * s.capacity + (s.start + lookback)) n
unfolding windows_in
lying s d h b a z lookback n v k w y e f =
    let r : d * s.capacity + s.capacity ≤ s.tracked * s.capacity = region d s.tracked s.capacity k in
    let q : d * s.capacity + s.capacity ≤ 1048576 = region-fits d s.tracked s.capacity k v.few v.small in
    let m = ahead-least (target_at s d) in
    let i = v.within in
    let j = v.befores_fit in
    let l = v.aheads_fit in
    let o = v.hurdles_fit in
    record { fits = omega arith; in-befores = omega arith; in-aheads = omega arith; in-scratch = omega arith; lookback-before = omega arith; in-hurdles = omega arith }

module _ (w : Windows) (d first n : ℕ) (z : ℕ) (y : Lying w.state d (length w.hurdles) (length w.befores) (length w.aheads) z first n)
    (e : first ≡ d * w.state.capacity + (w.state.start + analog_lookback (target_at w.state d))) (f : n ≡ windows_in w.state.count (target_at w.state d)) where
  base : ℕ
  base = d * w.state.capacity + w.state.start

  half : {A : Type 0} (z : A) (xs : List A) → first + n ≤ length xs → take n (drop first xs) ≡ tabulate (λ t. get_or xs (place w.state d t) z) (analog_lookback (target_at w.state d)) n
  unfolding base
  half z xs h =
      let b = analog_lookback (target_at w.state d) in
      let g : first ≡ base + b = omega arith in
      ap (λ m. take n (drop m xs)) g
      ∙ part_offset z xs base b n (omega arith)
      ∙ tabulate-same (λ t. get_or xs (base + t) z) (λ t. get_or xs (place w.state d t) z) b n
      (λ t p q. let c : base + t ≡ place w.state d t = omega arith in ap (λ m. get_or xs m z) c)

  pub parts-paired : paired (take n (drop first w.befores)) (take n (drop first w.aheads)) ≡ stored_pairs w d
  unfolding stored_pairs
  parts-paired =
      let b = analog_lookback (target_at w.state d) in
      ap₂ paired (half nan w.befores y.in-befores) (half 0 w.aheads y.in-aheads)
      ∙ paired-tables (λ t. get_or w.befores (place w.state d t) nan) (λ t. get_or w.aheads (place w.state d t) 0) b n
      ∙ ap (tabulate (stored_at w d) b) f

pub part_length : {A : Type 0} (xs : List A) (first n : ℕ) → first + n ≤ length xs → length (take (first + n - first) (drop first xs)) ≡ n
part_length xs first n h = let e : first + n - first ≡ n = omega arith in rw e (length-take-le n (drop first xs) (rw length-drop (omega arith)))

-- the newest lookback, in memory and in the held hurdles
pub now-held : (s : AnalogHistory) (hs : List ℕ) (target : ℕ) → analog_lookback target ≤ s.count → s.start + s.count ≤ length hs
    → ln_rate (median_of (lookback_part hs (s.start + s.count) (analog_lookback target))) ≡ now_of (held s hs) target
unfolding now_of before_at
now-held s hs target h i =
    lookback-held s hs target s.count h (omega arith) i
    ∙ sym (ap (λ c. ln_rate (median_of (lookback_part (held s hs) c (analog_lookback target)))) (length-held s hs i))

-- ---- a target that is tracked has the window and the lookback of the blocks asked for
same_lookback : (a b : ℕ) → ahead_of a ≡ ahead_of b → analog_lookback a ≡ analog_lookback b
unfolding ahead_of analog_lookback
same_lookback a b e = omega arith

module _ (s : AnalogHistory) (n : ℕ) (h : find_target s n < s.tracked) where
  same_ahead : ahead_of (target_at s (find_target s n)) ≡ ahead_of n
  unfolding find_target
  same_ahead = eqb-true _ _ ((sought (λ d. eqb (ahead_of (target_at s d)) (ahead_of n)) 0 s.tracked).here (omega arith))

  pub tracked-windows : (c : ℕ) → windows_in c (target_at s (find_target s n)) ≡ windows_in c n
  unfolding windows_in
  tracked-windows c = ap₂ (λ a b. c + 1 - (a + b)) (same_lookback (target_at s (find_target s n)) n same_ahead) same_ahead

  pub tracked_now : (hs : List ℕ) → now_of hs (target_at s (find_target s n)) ≡ now_of hs n
  unfolding now_of
  tracked_now hs = ap (λ b. ln_rate (median_of (lookback_part hs (length hs) b))) (same_lookback (target_at s (find_target s n)) n same_ahead)

  same_pair : (hs : List ℕ) (i : ℕ) → pair_at hs (target_at s (find_target s n)) i ≡ pair_at hs n i
  unfolding before_at ahead_at
  same_pair hs i = rw (same_lookback (target_at s (find_target s n)) n same_ahead, same_ahead)

  pub tracked_pairs : (hs : List ℕ) → pairs_of hs (target_at s (find_target s n)) ≡ pairs_of hs n
  unfolding pairs_of
  tracked_pairs hs =
      let t = target_at s (find_target s n) in
      ap₂ (λ k m. tabulate (pair_at hs t) k m) (same_lookback t n same_ahead) (tracked-windows (length hs))
      ∙ tabulate-same (pair_at hs t) (pair_at hs n) (analog_lookback n) (windows_in (length hs) n) (λ i p q. same_pair hs i)

-- ---- the answer, by d
and-false : (b : Bool) → (b && false) ≡ false
and-false true = refl
and-false false = refl

module _ (w : Windows) (n : ℕ) (c : Float) where
  pub rate_untracked : w.state.tracked ≤ find_target w.state n → none ≡ rate_in w n c
  unfolding rate_in
  rate_untracked h = sym (rw (le-ltb (find_target w.state n) w.state.tracked h))

  module _ (h : find_target w.state n < w.state.tracked) where
    by-target : rate_in w n c ≡ rate_among (held_in w) (stored_pairs w (find_target w.state n)) n c
    unfolding rate_in
    by-target = rw (lt-ltb (find_target w.state n) w.state.tracked h)

    stored-count : length (stored_pairs w (find_target w.state n)) ≡ windows_in w.state.count n
    unfolding stored_pairs
    stored-count = tabulate-length (stored_at w (find_target w.state n)) _ _ ∙ tracked-windows w.state n h w.state.count

    pub rate-few : windows_in w.state.count n < 2000 → none ≡ rate_in w n c
    rate-few k = sym (by-target ∙ unfold rate_among in rw (stored-count, lt-leb 2000 (windows_in w.state.count n) k))

    pub rate_unsure : in_unit c ≡ false → none ≡ rate_in w n c
    rate_unsure e = sym (by-target ∙ unfold rate_among in rw (e, and-false (leb 2000 (length (stored_pairs w (find_target w.state n))))))

    pub rate-found : 2000 ≤ windows_in w.state.count n → in_unit c ≡ true
        → rate (quantile_of (neighbors (now_of (held_in w) (target_at w.state (find_target w.state n))) (stored_pairs w (find_target w.state n))) c) ≡ rate_in w n c
    rate-found k e = sym (by-target ∙ unfold rate_among in rw (stored-count, le-leb 2000 (windows_in w.state.count n) k, e, tracked_now w.state n h (held_in w)))

-- ---- a refusal before an answer
pub answer-refused : (r : ℕ) (a : Answer) → (r ≡ 0 → ⊥) → refusal r ≡ answer_after r a
unfolding answer_after
answer-refused zero a n = absurd (n refl)
answer-refused (suc r) a n = refl

pub answer-given : (r : ℕ) (a : Answer) → r ≡ 0 → a ≡ answer_after r a
unfolding answer_after
answer-given zero a e = refl
answer-given (suc r) a e = absurd (let f : ⊥ = omega arith in f)

pub answer-passed : (q : Result (Option ℕ) Refusal) (k : Refusal) (r : ℕ) (a : Answer) → IsErrAnd q (λ e. e ≡ k) → number k ≡ r → answer q ≡ answer_after r a
answer-passed (Ok o) k r a h e = absurd h
answer-passed (Err j) k r a h e = rw (h, ← e) (answer-refused (number k) a (some_number k _ refl))

-- ---- the count, by the same tests
pub count-refused : (r n : ℕ) → (r ≡ 0 → ⊥) → counts.refused r ≡ counted_of r n
unfolding counted_of
count-refused zero n f = absurd (f refl)
count-refused (suc r) n f = refl

pub count-given : (r n m : ℕ) → r ≡ 0 → m ≡ n → counts.count m ≡ counted_of r n
unfolding counted_of
count-given zero n m e f = rw f
count-given (suc r) n m e f = absurd (let g : ⊥ = omega arith in g)

pub counted_passed : (q : Result ℕ Refusal) (k : Refusal) (x n : ℕ) → IsErrAnd q (λ e. e ≡ k) → number k ≡ x → counted q ≡ counted_of x n
counted_passed (Ok a) k x n h e = absurd h
counted_passed (Err j) k x n h e = rw (h, ← e) (count-refused (number k) n (some_number k _ refl))

module _ (s : AnalogHistory) (n : ℕ) where
  pub counted_tracked : find_target s n < s.tracked → windows_in s.count n ≡ pair_count s n
  unfolding pair_count
  counted_tracked h = sym (rw (lt-ltb (find_target s n) s.tracked h))

  pub counted_none : s.tracked ≤ find_target s n → 0 ≡ pair_count s n
  unfolding pair_count
  counted_none h = sym (rw (le-ltb (find_target s n) s.tracked h))
