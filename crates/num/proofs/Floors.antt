-- `floor_of` in each of the seven cases that `floor` tells apart, and `ceil_of` by `floor_of`; the rules of the tactics for `floor`, `whole_below` and `to_u64`. Assumes nothing.
use Rattle.std.proofs.Common.{◌≡◌, ℕ, zero, suc, ◌+◌, ◌*◌, ◌%◌, ◌^◌, ◌<◌, ◌≤◌, Bool, true, false, cond, not, T, eqb, ltb, ℤ, pos, negsuc, sym, refl, ap, ◌∙◌, true≢false, lt_of_le_of_lt, mul-le-mul_right, div-lt_iff_lt-mul, lt_of_mul-lt-mul_right, mul-lt-mul_of_pos_right, pow-suc, div-add-mod', mul-one, div-mul-le_self, arith, lit≤, le→leb, pow_pos, ltb-false, ltb-true, le-ltb, lt-ltb, eq-eqb, eqb-true}
use native.Mathlib.Nat.{lt-div-mul-add, zero-mod, min-eq_left}
use borrow.Author.Tests.{eqb-false}
use lib.Ieee.{Float, nan, inf, fin, binary64, up, down, neg, lt, add, sub, to_unsigned, in_signed, to_signed, in_float, fits}
use lib.Ieee.Fits.{down_pos, of_int-fits}
use lib.Ieee.Exact.{HasValue}
use lib.Ieee.Back.{positive_back, whole_unique}
use lib.Ieee.Bits.{is_true}
use Rattle.std.proofs.lemmas.Float.{T_from_true}
use mir.Val.{bool_byte}
use Rattle.num.specs.Float.{of_u64, to_u64, cut, is_whole, floor_of, ceil_of}
use Rattle.num.proofs.Value.{held, bits_0, bits_1, bits_52}
use Rattle.num.proofs.Whole.{whole-value, whole-next}
use Rattle.num.proofs.WholeSum.{whole_before, Lands, lands}

-- ---- the order of a positive m * 2 ^ e with its whole part n, and with 2 ^ 52
not-zero : (r : ℕ) → (r ≡ 0 → ⊥) → 0 < r
not-zero zero h = absurd (h refl)
not-zero (suc r) h = omega arith

part : (q d r a : ℕ) → q * d + r ≡ a → not (eqb r 0) ≡ ltb (q * d) a
part q d r a e = go (eqb r 0) refl
  where
    go : (b : Bool) → eqb r 0 ≡ b → not b ≡ ltb (q * d) a
    go true h = sym (le-ltb (q * d) a (omega (arith, eqb-true r 0 h)))
    go false h = sym (lt-ltb (q * d) a (omega (arith, not-zero r (eqb-false r 0 h))))

scaled : (a b c : ℕ) → 0 < c → ltb (a * c) (b * c) ≡ ltb a b
scaled a b c C = go (ltb a b) refl
  where
    go : (t : Bool) → ltb a b ≡ t → ltb (a * c) (b * c) ≡ t
    go true h = lt-ltb (a * c) (b * c) (mul-lt-mul_of_pos_right (ltb-true a b h) C)
    go false h = le-ltb (a * c) (b * c) (mul-le-mul_right c (ltb-false a b h))

-- by any float y that is n
below_by : (y : Float) (n m : ℕ) (e : ℤ) → HasValue y false n 1 → lt y (fin false m e) ≡ ltb (n * down e) (m * up e)
unfolding lt
below_by nan n m e v = absurd v
below_by (inf s) n m e v = absurd v
below_by (fin true k d) n m e v = absurd (true≢false v.0)
below_by (fin false k d) n m e v =
    let w : k * up d ≡ n * down d = sym (mul-one (k * up d)) ∙ v.1 in
    let h : k * up d * down e ≡ n * down e * down d = ap (λ (z : ℕ). z * down e) w ∙ omega arith in
    ap (λ (z : ℕ). ltb z (m * up e * down d)) h ∙ scaled (n * down e) (m * up e) (down d) (down_pos d)

above-by : (y : Float) (n m : ℕ) (e : ℤ) → HasValue y false n 1 → lt (fin false m e) y ≡ ltb (m * up e) (n * down e)
unfolding lt
above-by nan n m e v = absurd v
above-by (inf s) n m e v = absurd v
above-by (fin true k d) n m e v = absurd (true≢false v.0)
above-by (fin false k d) n m e v =
    let w : k * up d ≡ n * down d = sym (mul-one (k * up d)) ∙ v.1 in
    let h : k * up d * down e ≡ n * down e * down d = ap (λ (z : ℕ). z * down e) w ∙ omega arith in
    ap (λ (z : ℕ). ltb (m * up e * down d) z) h ∙ scaled (m * up e) (n * down e) (down d) (down_pos d)

pub small : (m : ℕ) (e : ℤ) → lt (fin false m e) (fin false 1 (pos 52)) ≡ true → m * up e < 2 ^ 52 * down e
unfolding lt
small m e h = omega (arith, ltb-true (m * up e * 1) (1 * 2 ^ 52 * down e) h)

pub large : (m : ℕ) (e : ℤ) → lt (fin false m e) (fin false 1 (pos 52)) ≡ false → 2 ^ 52 * down e ≤ m * up e
unfolding lt
large m e h = omega (arith, ltb-false (m * up e * 1) (1 * 2 ^ 52 * down e) h)

cut_small : (m : ℕ) (e : ℤ) → m * up e < 2 ^ 52 * down e → cut m e < 2 ^ 52
cut_small m e h = (div-lt_iff_lt-mul (down_pos e)).1 h

-- the cast is the whole part, and the test w < x says whether there is a fraction
cast : (m : ℕ) (e : ℤ) → m * up e < 2 ^ 52 * down e → to_u64 (fin false m e) ≡ cut m e
unfolding to_unsigned
cast m e h = min-eq_left (omega (arith, cut_small m e h))

test : (m : ℕ) (e : ℤ) → m * up e < 2 ^ 52 * down e → lt (of_u64 (to_u64 (fin false m e))) (fin false m e) ≡ not (is_whole m e)
test m e h =
    ap (λ (z : ℕ). lt (of_u64 z) (fin false m e)) (cast m e h)
    ∙ below_by (of_u64 (cut m e)) (cut m e) m e (whole-value (cut m e) (omega (arith, cut_small m e h)))
    ∙ sym (part (cut m e) (down e) (m * up e % down e) (m * up e) (div-add-mod' (m * up e) (down e)))

flip : (b c : Bool) → not b ≡ c → b ≡ not c
flip true true h = absurd (true≢false (sym h))
flip true false h = refl
flip false true h = refl
flip false false h = absurd (true≢false h)

-- ---- from 2 ^ 52 on every float is whole
pub no_fraction : (m k : ℕ) → m < 2 ^ 53 → 2 ^ 52 * 2 ^ suc k ≤ m * 1 → ⊥
no_fraction m k M h = omega (arith, pow-suc 2 k, pow_pos k)

pub large-whole : (s : Bool) (m : ℕ) (e : ℤ) → T (fits binary64 (fin s m e)) → 2 ^ 52 * down e ≤ m * up e → is_whole m e ≡ true
large-whole s m (pos k) f h = eq-eqb (m * 2 ^ k % 1) 0 (omega arith)
large-whole s zero (negsuc k) f h = absurd (no_fraction 0 k (lit≤ tt) h)
large-whole s (suc m) (negsuc k) f h = absurd (no_fraction (suc m) k (held s m (negsuc k) f).0 h)

zero-whole : (m : ℕ) (e : ℤ) → m * up e ≡ 0 → is_whole m e ≡ true
zero-whole m e h = eq-eqb (m * up e % down e) 0 (ap (λ (z : ℕ). z % down e) h ∙ zero-mod (down e))

-- ---- what lies above 0, and below it
pub above : (P : Float → Type 0) → P (inf false) → ((m : ℕ) (e : ℤ) → P (fin false m e)) → (x : Float) → lt (fin false 0 (pos 0)) x ≡ true → P x
unfolding lt
above P i f nan h = absurd (true≢false (sym h))
above P i f (inf true) h = absurd (true≢false (sym h))
above P i f (inf false) h = i
above P i f (fin true m e) h = absurd (true≢false (sym h))
above P i f (fin false m e) h = f m e

under : (P : Float → Type 0) → P (inf true) → ((m : ℕ) (e : ℤ) → P (fin true m e)) → (x : Float) → lt x (fin false 0 (pos 0)) ≡ true → P x
unfolding lt
under P i f nan h = absurd (true≢false (sym h))
under P i f (inf true) h = i
under P i f (inf false) h = absurd (true≢false (sym h))
under P i f (fin true m e) h = f m e
under P i f (fin false m e) h = absurd (true≢false (sym h ∙ le-ltb (m * up e * 1) (0 * down e) (omega (arith, ltb-true (m * up e * 1) (0 * down e) h))))

abbrev pub limit : Float
limit = fin false 1 (pos 52)

-- the whole part of x, as a float
abbrev part_of : Float → Float
part_of x = of_u64 (to_u64 x)

-- ---- the whole part by a sum: x + 2 ^ 52 - 2 ^ 52, or one less where that is above x
abbrev landed : Float → Float
landed x = sub binary64 (add binary64 x limit) limit

next-whole : (m : ℕ) (e : ℤ) → m * up e < suc (cut m e) * down e
next-whole m e =
    let h : m * up e < cut m e * down e + down e = lt-div-mul-add (down_pos e) in
    omega arith

lands-at : (m : ℕ) (e : ℤ) → m * up e < 2 ^ 52 * down e → Lands (fin false m e) (cut m e)
lands-at m e h =
    lands (fin false m e) (m * up e) (down e) (cut m e) (down_pos e) (refl, refl) (div-mul-le_self (m * up e) (down e))
    (next-whole m e) (cut_small m e h)

-- x + 2 ^ 52 - 2 ^ 52 is the whole part of x, and one more where it is above x
pub landing : (x : Float) → lt (fin false 0 (pos 0)) x ≡ true → lt x limit ≡ true → (landed x ≡ of_u64 (to_u64 x + bool_byte (lt x (landed x)))) × (to_u64 x < 2 ^ 52)
landing =
    above (λ (x : Float). lt x limit ≡ true → (landed x ≡ of_u64 (to_u64 x + bool_byte (lt x (landed x)))) × (to_u64 x < 2 ^ 52)) (λ b. absurd (true≢false (sym (unfold lt in b))))
    (λ m e b.
    let x = fin false m e in
    let l = small m e b in
    let L = lands-at m e l in
    let t = lt x (landed x) in
    let c : ltb (m * up e) (L.j * down e) ≡ t =
    sym (above-by (of_u64 L.j) L.j m e (whole-value L.j (omega (arith, L.most, cut_small m e l)))) ∙ sym (ap (lt x) L.is) in
    (L.is ∙ ap of_u64 (beside m e L.j L.least L.most t c ∙ ap (λ (z : ℕ). z + bool_byte t) (sym (cast m e l))), rw (cast m e l) (cut_small m e l)))
  where
    beside : (m : ℕ) (e : ℤ) (j : ℕ) → cut m e ≤ j → j ≤ suc (cut m e) → (t : Bool) → ltb (m * up e) (j * down e) ≡ t → j ≡ cut m e + bool_byte t
    beside m e j lo hi true h =
        let g : cut m e < j = lt_of_mul-lt-mul_right (down e) {m = cut m e} {n = j} (lt_of_le_of_lt (div-mul-le_self (m * up e) (down e)) (ltb-true (m * up e) (j * down e) h)) in
        omega (arith, g)
    beside m e j lo hi false h =
        let g : j < suc (cut m e) = lt_of_mul-lt-mul_right (down e) {m = j} {n = suc (cut m e)} (lt_of_le_of_lt (ltb-false (m * up e) (j * down e) h) (next-whole m e)) in
        omega (arith, g)

pub landed-above : (x : Float) → lt (fin false 0 (pos 0)) x ≡ true → lt x limit ≡ true → lt x (landed x) ≡ true → sub binary64 (landed x) (fin false 1 (pos 0)) ≡ part_of x
landed-above x a b t =
    let h = landing x a b in
    ap (λ (y : Float). sub binary64 y (fin false 1 (pos 0))) (h.0 ∙ ap (λ (z : Bool). of_u64 (to_u64 x + bool_byte z)) t ∙ ap of_u64 (next (to_u64 x))) ∙ whole_before (to_u64 x) (omega (arith, h.1))
  where
    next : (n : ℕ) → n + 1 ≡ suc n
    next n = omega arith

pub landed-within : (x : Float) → lt (fin false 0 (pos 0)) x ≡ true → lt x limit ≡ true → lt x (landed x) ≡ false → landed x ≡ part_of x
landed-within x a b t = (landing x a b).0 ∙ ap (λ (z : Bool). of_u64 (to_u64 x + bool_byte z)) t ∙ ap of_u64 (same (to_u64 x))
  where
    same : (n : ℕ) → n + 0 ≡ n
    same n = omega arith

-- the whole part as an i64: the cast loses nothing
pub part_cast : (x : Float) → lt (fin false 0 (pos 0)) x ≡ true → lt x limit ≡ true → T (in_signed binary64 63 (part_of x)) × (to_signed 63 (part_of x) ≡ pos (to_u64 x))
unfolding in_float
part_cast x a b =
    let h = (landing x a b).1 in
    positive_back binary64 63 (to_u64 x) (le→leb (to_u64 x) (2 ^ 53) (omega (arith, h))) (omega (arith, h))

-- the whole part is the floor: a float that is whole is the only one of its value
at-part : (m : ℕ) (e : ℤ) → T (fits binary64 (fin false m e)) → m * up e < 2 ^ 52 * down e → (b : Bool) → is_whole m e ≡ b → of_u64 (cut m e) ≡ cond b (fin false m e) (of_u64 (cut m e))
at-part m e f h false w = refl
at-part m e f h true w =
    let q = cut m e in
    let v : m * up e * 1 ≡ q * down e = omega (arith, div-add-mod' (m * up e) (down e), eqb-true (m * up e % down e) 0 w) in
    whole_unique binary64 (of_u64 q) (fin false m e) false q (of_int-fits binary64 (pos q)) f (whole-value q (omega (arith, cut_small m e h))) (refl, v)

pub positive : (x : Float) → T (fits binary64 x) → lt (fin false 0 (pos 0)) x ≡ true → lt x limit ≡ true → part_of x ≡ floor_of x
unfolding floor_of
positive x f a b =
    above (λ (x : Float). T (fits binary64 x) → lt x limit ≡ true → part_of x ≡ floor_of x) (λ f b. absurd (true≢false (sym (unfold lt in b))))
    (λ m e f b. rw (cast m e (small m e b)) (at-part m e f (small m e b) (is_whole m e) refl)) x a f b

pub positive_large : (x : Float) → lt (fin false 0 (pos 0)) x ≡ true → T (fits binary64 x) → lt x limit ≡ false → x ≡ floor_of x
unfolding floor_of
positive_large =
    above (λ (x : Float). T (fits binary64 x) → lt x limit ≡ false → x ≡ floor_of x) (λ f b. refl)
    (λ m e f b. rw (large-whole false m e f (large m e b)))

pub negative-above : (x : Float) → lt x (fin false 0 (pos 0)) ≡ true → lt (fin false 0 (pos 0)) (neg x) ≡ true
unfolding lt neg
negative-above x h =
    under (λ (y : Float). lt y (fin false 0 (pos 0)) ≡ true → lt (fin false 0 (pos 0)) (neg y) ≡ true) (λ k. refl)
    (λ m e k. lt-ltb (0 * down e) (m * up e * 1) (omega (arith, ltb-true 0 (m * up e * 1 + 0 * down e) k))) x h h

pub negative_fraction : (x : Float) → lt x (fin false 0 (pos 0)) ≡ true → lt (neg x) limit ≡ true → lt (part_of (neg x)) (neg x) ≡ true → neg (add binary64 (part_of (neg x)) (fin false 1 (pos 0))) ≡ floor_of x
unfolding floor_of neg
negative_fraction =
    under (λ (x : Float). lt (neg x) limit ≡ true → lt (part_of (neg x)) (neg x) ≡ true → neg (add binary64 (part_of (neg x)) (fin false 1 (pos 0))) ≡ floor_of x) (λ b. absurd (true≢false (sym (unfold lt in b))))
    (λ m e b w.
    let l = small m e b in
    rw (flip (is_whole m e) true (sym (test m e l) ∙ w), cast m e l, whole-next (cut m e) (omega (arith, cut_small m e l))))

pub negative-whole : (x : Float) → lt x (fin false 0 (pos 0)) ≡ true → lt (neg x) limit ≡ true → lt (part_of (neg x)) (neg x) ≡ false → x ≡ floor_of x
unfolding floor_of neg
negative-whole =
    under (λ (x : Float). lt (neg x) limit ≡ true → lt (part_of (neg x)) (neg x) ≡ false → x ≡ floor_of x) (λ b. absurd (true≢false (sym (unfold lt in b))))
    (λ m e b w. rw (flip (is_whole m e) false (sym (test m e (small m e b)) ∙ w)))

pub negative_large : (x : Float) → lt x (fin false 0 (pos 0)) ≡ true → T (fits binary64 x) → lt (neg x) limit ≡ false → x ≡ floor_of x
unfolding floor_of neg
negative_large =
    under (λ (x : Float). T (fits binary64 x) → lt (neg x) limit ≡ false → x ≡ floor_of x) (λ f b. refl)
    (λ m e f b. rw (large-whole true m e f (large m e b)))

-- ---- NaN and the zeros
pub neither : (x : Float) → lt (fin false 0 (pos 0)) x ≡ false → lt x (fin false 0 (pos 0)) ≡ false → x ≡ floor_of x
unfolding floor_of lt
neither nan a b = refl
neither (inf s) a b = refl
neither (fin true m e) a b = rw (zero-whole m e (omega (arith, ltb-false 0 (m * up e * 1 + 0 * down e) b)))
neither (fin false m e) a b = rw (zero-whole m e (omega (arith, ltb-false (0 * down e) (m * up e * 1) a)))

-- ---- the ceiling is the floor of -x, negated
pub neg-neg : (x : Float) → neg (neg x) ≡ x
unfolding neg
neg-neg nan = refl
neg-neg (inf true) = refl
neg-neg (inf false) = refl
neg-neg (fin true m e) = refl
neg-neg (fin false m e) = refl

neg-cond : (b : Bool) (x y : Float) → neg (cond b x y) ≡ cond b (neg x) (neg y)
neg-cond true x y = refl
neg-cond false x y = refl

pub ceil_floor : (x : Float) → neg (floor_of (neg x)) ≡ ceil_of x
unfolding floor_of ceil_of neg
ceil_floor nan = refl
ceil_floor (inf true) = refl
ceil_floor (inf false) = refl
ceil_floor (fin true m e) = neg-cond (is_whole m e) (fin false m e) (of_u64 (cut m e))
ceil_floor (fin false m e) = neg-cond (is_whole m e) (fin true m e) (neg (of_u64 (cut m e + 1))) ∙ ap (λ (y : Float). cond (is_whole m e) (fin false m e) y) (neg-neg (of_u64 (cut m e + 1)))

-- ---- as rules for the proofs of `whole_below`, `to_u64` and `floor`, which go by the tests that the code makes
pub cast_in : (x : Float) → lt (fin false 0 (pos 0)) x ≡ true → lt x limit ≡ true → T (in_signed binary64 63 (part_of x))
cast_in x a b = (part_cast x a b).0

pub cast_is : (x : Float) → lt (fin false 0 (pos 0)) x ≡ true → lt x limit ≡ true → to_signed 63 (part_of x) ≡ pos (to_u64 x)
cast_is x a b = (part_cast x a b).1

pub cast_small : (x : Float) → lt (fin false 0 (pos 0)) x ≡ true → lt x limit ≡ true → to_u64 x < 2 ^ 52
cast_small x a b = (landing x a b).1

pub ruleset landing_laws = (landed-above, landed-within, is_true, bits_0, bits_1, bits_52)

pub ruleset cast_laws = (cast_in, cast_is, cast_small, bits_0, bits_52, T_from_true)

pub ruleset floor_laws = (positive, positive_large, negative-above, negative_fraction, negative-whole, negative_large, neither, bits_0, bits_1, bits_52, T_from_true)
