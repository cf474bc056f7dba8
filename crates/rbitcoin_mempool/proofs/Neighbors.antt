-- The pairs in band and the distances, as they are collected: how each list grows, and what a list of pairs is made of; and how distances are ordered. Assumes nothing.
use Rattle.std.proofs.Common.{◌≡◌, ℕ, suc, ◌+◌, ◌*◌, ◌<◌, ◌≤◌, Bool, true, false, not, ◌&&◌, ◌||◌, T, eqb, ltb, List, [], ◌∷◌, ◌++◌, map, length, get_or, take, drop, set, ℤ, negsuc, sym, refl, ap, ◌∙◌, ap₂, append_assoc, append-nil, add-one, arith, length-append, length-drop, length-set, take-append-drop, length-take-le, take_all, take-suc, drop-drop, take-suc-set, take_at, drop-set-lt, ltb-false, le-ltb, lt-ltb, eq-eqb}
use mathlib.Core.List.{map-append}
use lib.Seq.{take-set-le}
use lib.Ieee.{Float, nan, inf, fin, binary64, up, down, sub, neg, lt, eq, le, is_nan, size, add, mul, div, of_bits, of_int}
use lib.Ieee.Fits.{sub-fits}
use Rattle.num.specs.Float.{abs_bits, abs_of}
use Rattle.num.proofs.BitOrder.{abs-order}
use Rattle.num.specs.Ln.{exponent_of, ln_of, significand_of, terms}
use Rattle.rbitcoin_mempool.specs.Nearest.{band, distance, distances, in_band, nearest, neighbors, outcomes_in_band, outcomes_nearest, paired}
use Rattle.rbitcoin_mempool.specs.Pairs.{Pair}

-- ---- |d| <= limit, by two tests
zero-sum : (a b : ℕ) → (ltb 0 (a + b) || (eqb a b && eqb a 0)) ≡ true
zero-sum a b = go (ltb 0 (a + b)) refl
  where
    go : (t : Bool) → ltb 0 (a + b) ≡ t → (t || (eqb a b && eqb a 0)) ≡ true
    go true e = refl
    go false e = let z : a + b ≤ 0 = ltb-false _ _ e in rw (eq-eqb a b (omega arith), eq-eqb a 0 (omega arith))

minus-below : (m n : ℕ) (e k : ℤ) → le (fin true m e) (fin false n k) ≡ true
unfolding le lt eq
minus-below m n e k = zero-sum (m * up e * down k) (n * up k * down e)

and-true : (b : Bool) → (b && true) ≡ b
and-true true = refl
and-true false = refl

two_sided : (d : Float) (n : ℕ) (k : ℤ) → (le d (fin false n k) && le (neg d) (fin false n k)) ≡ le (abs_of d) (fin false n k)
unfolding neg
two_sided nan n k = unfold le lt eq in refl
two_sided (inf true) n k = unfold le lt eq in refl
two_sided (inf false) n k = unfold le lt eq in refl
two_sided (fin true m e) n k = rw (minus-below m n e k)
two_sided (fin false m e) n k = rw (minus-below m n e k) (and-true (le (fin false m e) (fin false n k)))

-- the band is not negative
band-is : band ≡ fin false 8039593716390433 (negsuc 54)
unfolding band ln_of significand_of exponent_of terms size add sub mul div le of_bits of_int
band-is = refl

pub within-band : (now : Float) (p : Pair) (limit : Float) → limit ≡ band
    → (le (sub binary64 p.before now) limit && le (neg (sub binary64 p.before now)) limit) ≡ in_band now p
unfolding in_band
within-band now p limit e = rw (e, band-is) (two_sided (sub binary64 p.before now) 8039593716390433 (negsuc 54))

taken : (now : Float) (p : Pair) (ps : List Pair) → in_band now p ≡ true → outcomes_in_band now (p ∷ ps) ≡ p.ahead ∷ outcomes_in_band now ps
unfolding outcomes_in_band
taken now p ps e = rw e

passed : (now : Float) (p : Pair) (ps : List Pair) → in_band now p ≡ false → outcomes_in_band now (p ∷ ps) ≡ outcomes_in_band now ps
unfolding outcomes_in_band
passed now p ps e = rw e

-- ---- of the pairs `all`, those from `logs` and `outs` are still to come: the outcomes of those in band before them stand in front
pub record Gathering (now : Float) (all : List Pair) (logs : List Float) (outs out : List ℕ) (n : ℕ) : Type 0 where
  pub as_many : length logs ≡ length outs
  pub room : n + length logs ≤ length out
  pub done : take n out ++ outcomes_in_band now (paired logs outs) ≡ outcomes_in_band now all

pub gather_start : (now : Float) (logs ls : List Float) (outs os out : List ℕ) → ls ≡ logs → os ≡ outs → length logs ≡ length outs → length logs ≤ length out
    → Gathering now (paired logs outs) ls os out 0
gather_start now logs ls outs os out p q e r = rw (p, q) (record { as_many = e; room = omega arith; done = refl })

module _ {now : Float} {all : List Pair} {logs bs : List Float} {outs vs out : List ℕ} {b : Float} {v n : ℕ}
    (h : Gathering now all logs outs out n) (p : logs ≡ b ∷ bs) (q : outs ≡ v ∷ vs) where
  abbrev here : Pair
  here = record { before = b; ahead = v }

  one_less : (length logs ≡ suc (length bs)) × (length outs ≡ suc (length vs))
  one_less = (ap length p, ap length q)

  pub gather_room : n < length out
  gather_room = let l = one_less in omega (arith, h.room)

  pub gather_in : in_band now here ≡ true → Gathering now all bs vs (set out n v) (n + 1)
  unfolding paired
  gather_in e =
      let l = one_less in
      record {
        as_many = omega (arith, h.as_many);
        room = omega (arith, h.room, length-set out n v);
        done =
            rw (add-one n, take-suc-set out n v gather_room)
            (append_assoc (take n out) (v ∷ []) _ ∙ ap (λ l. take n out ++ l) (sym (taken now here _ e)) ∙ rw (p, q) at h.done);
      }

  pub gather-past : in_band now here ≡ false → Gathering now all bs vs (set out n v) n
  unfolding paired
  gather-past e =
      let l = one_less in
      record {
        as_many = omega (arith, h.as_many);
        room = omega (arith, h.room, length-set out n v);
        done = rw (take-set-le n out n v (omega arith)) (ap (λ l. take n out ++ l) (sym (passed now here _ e)) ∙ rw (p, q) at h.done);
      }

pub gather_end : {now : Float} {all : List Pair} (logs : List Float) {outs out : List ℕ} {n : ℕ} → Gathering now all logs outs out n → length logs ≡ 0 → take n out ≡ outcomes_in_band now all
unfolding outcomes_in_band paired
gather_end [] h e = sym (append-nil _) ∙ h.done
gather_end (b ∷ bs) h e = absurd (omega arith)

pub gather-count : {now : Float} {all : List Pair} (logs : List Float) {outs out : List ℕ} {n : ℕ} → Gathering now all logs outs out n → length logs ≡ 0 → n ≡ length (outcomes_in_band now all)
gather-count logs {out} {n} h e = sym (length-take-le n out (omega (arith, h.room))) ∙ ap length (gather_end logs h e)

-- ---- the first i places of `out` hold the first i distances, and the rest is as it was
pub record Filled (logs : List Float) (level : Float) (start out : List ℕ) (i : ℕ) : Type 0 where
  pub within : i ≤ length logs
  pub size : length out ≡ length start
  pub front : take i out ≡ distances level (take i logs)
  pub rest : drop i out ≡ drop i start

pub fill_start : (logs : List Float) (level : Float) (start : List ℕ) → Filled logs level start start 0
fill_start logs level start = record { within = omega arith; size = refl; front = refl; rest = refl }

module _ (logs : List Float) (level : Float) (start out : List ℕ) (i : ℕ) (h : Filled logs level start out i) (room : length logs ≤ length start) where
  pub fill-next : i < length logs → (z : Float) (v : ℕ) → v ≡ abs_bits (sub binary64 (get_or logs i z) level) → Filled logs level start (set out i v) (i + 1)
  fill-next r z v e =
      record {
        within = omega arith;
        size = length-set out i v ∙ h.size;
        front =
            rw (add-one i, take-suc-set out i v (omega (arith, h.size)), take-suc logs i z r, e)
            (ap (λ l. l ++ (abs_bits (sub binary64 (get_or logs i z) level) ∷ [])) h.front
            ∙ sym (map-append (λ l. abs_bits (sub binary64 l level)) (take i logs) (get_or logs i z ∷ [])));
        rest = drop-set-lt (i + 1) out i v (omega arith) ∙ sym (drop-drop 1 i out) ∙ ap (drop 1) h.rest ∙ drop-drop 1 i start;
      }

  pub fill_end : length logs ≤ i → out ≡ distances level logs ++ drop (length logs) start
  fill_end l =
      let e : i ≡ length logs = omega (arith, h.within) in
      sym (take-append-drop i out)
      ∙ ap₂ (λ a b. a ++ b) (h.front ∙ ap (distances level) (take_all i logs l)) (h.rest ∙ ap (λ j. drop j start) e)

-- the front of a list that was written to the front of another
pub front_of : (a start whole : List ℕ) (n : ℕ) → whole ≡ a ++ drop n start → length whole ≡ length start → n ≤ length start → take n whole ≡ a
front_of a start whole n e s l =
    let q = ap length e ∙ length-append a (drop n start) in
    ap (take n) e ∙ take_at a (drop n start) n (omega (arith, q, length-drop n start))

-- ---- pairs from two lists of one length
pub paired-distances : (now : Float) (bs : List Float) (vs : List ℕ) → length bs ≡ length vs → map (distance now) (paired bs vs) ≡ distances now bs
unfolding paired distance
paired-distances now [] vs e = refl
paired-distances now (b ∷ bs) [] e = absurd (let f : ⊥ = omega arith in f)
paired-distances now (b ∷ bs) (v ∷ vs) e = ap (λ l. abs_bits (sub binary64 b now) ∷ l) (paired-distances now bs vs (omega arith))

pub paired-aheads : (bs : List Float) (vs : List ℕ) → length bs ≡ length vs → map (λ (p : Pair). p.ahead) (paired bs vs) ≡ vs
unfolding paired
paired-aheads [] [] e = refl
paired-aheads [] (v ∷ vs) e = absurd (let f : ⊥ = omega arith in f)
paired-aheads (b ∷ bs) [] e = absurd (let f : ⊥ = omega arith in f)
paired-aheads (b ∷ bs) (v ∷ vs) e = ap (λ l. v ∷ l) (paired-aheads bs vs (omega arith))

pub nearest-paired : (now : Float) (bs : List Float) (vs : List ℕ) → length bs ≡ length vs → nearest 200 (distances now bs) vs ≡ outcomes_nearest now (paired bs vs)
unfolding outcomes_nearest
nearest-paired now bs vs e = sym (ap₂ (λ a b. nearest 200 a b) (paired-distances now bs vs e) (paired-aheads bs vs e))

-- ---- which outcomes are used
module _ (now : Float) (ps : List Pair) (n : ℕ) (e : n ≡ length (outcomes_in_band now ps)) where
  pub few : n < 200 → outcomes_nearest now ps ≡ neighbors now ps
  unfolding neighbors
  few h = sym (rw (← e, lt-ltb n 200 h))

  pub enough : 200 ≤ n → outcomes_in_band now ps ≡ neighbors now ps
  unfolding neighbors
  enough h = sym (rw (← e, le-ltb n 200 h))

-- where neither is NaN, a lesser distance is one that IEEE 754 compares as less
pub distance-order : (now : Float) (p q : Pair) → T (not (is_nan (sub binary64 p.before now))) → T (not (is_nan (sub binary64 q.before now)))
    → ltb (distance now p) (distance now q) ≡ lt (abs_of (sub binary64 p.before now)) (abs_of (sub binary64 q.before now))
unfolding distance
distance-order now p q h k = abs-order (sub binary64 p.before now) (sub binary64 q.before now) (sub-fits binary64 p.before now) (sub-fits binary64 q.before now) h k
