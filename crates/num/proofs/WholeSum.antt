-- From 2 ^ 52 to 2 ^ 53 `round` gives the nearest whole number, so that x + 2 ^ 52 - 2 ^ 52 is the whole part of x or one more; and a whole number n below 2 ^ 52 as a float, by the bits of 2 ^ 52 + n. Assumes nothing.
use Rattle.std.proofs.Common.{◌≡◌, ℕ, suc, ◌+◌, ◌-◌, ◌*◌, ◌/◌, ◌%◌, ◌^◌, ◌<◌, ◌≤◌, Bool, false, not, T, leb, pos, sym, refl, ap, ◌∙◌, subst, le_trans, le_of_eq, lt_of_lt_of_le, mul-le-mul_right, mul_assoc, div-lt_iff_lt-mul, mul-lt-mul_of_pos_right, mul-pos, lt_of_not-le, le-div_iff_mul-le, mul-one, mul_right_comm, not-le_of_lt, arith, lit<, lit≤, pow_pos, pow_mono, pow-add}
use native.Mathlib.Nat.{eq_of_mul-eq-mul_right}
use borrow.Author.Tests.{lt-leb}
use lib.Ieee.{Float, nan, inf, fin, binary64, low, emax, up, down, size, round, add, sub, of_int, of_fields, of_bits, nan_bits, is_nan}
use lib.Ieee.Digits.{size-lt, size-le}
use lib.Ieee.Bits.{nan_bits_is}
use lib.Ieee.Exact.{HasValue, odd_sign}
use lib.Ieee.Nearest.{closest, closest_same}
use lib.Ieee.Order.{drop}
use lib.Ieee.Scale.{grid, round_val}
use Rattle.num.specs.Float.{of_u64}
use Rattle.num.proofs.Near.{Half, closest-half, under_bound, above_bound}
use Rattle.num.proofs.Values.{add-value, sub-value}
use Rattle.num.proofs.Whole.{whole-value}

size_gt : (n j : ℕ) → 2 ^ j ≤ n → j < size n
size_gt n j h = lt_of_not-le (λ (g : size n ≤ j). not-le_of_lt (lt_of_lt_of_le (size-lt n) (pow_mono g)) h)

scaled : (k L c : ℕ) → 2 ^ (k + L) * c ≡ 2 ^ k * c * 2 ^ L
scaled k L c = ap (λ (x : ℕ). x * c) (pow-add 2 k L) ∙ mul_right_comm (2 ^ k) (2 ^ L) c

-- a fraction of q + 1 digits before the point, in units of 2 ^ -L, drops L digits
dropped : (q L a c : ℕ) → 0 < c → 2 ^ q * c ≤ a → a < 2 ^ suc q * c → drop (suc q) (a * 2 ^ L) c ≡ L
dropped q L a c C lo hi =
    let n = a * 2 ^ L in
    let l : 2 ^ (q + L) * c ≤ n = le_trans (le_of_eq (scaled q L c)) (mul-le-mul_right (2 ^ L) lo) in
    let h : n < 2 ^ (suc q + L) * c = lt_of_lt_of_le (mul-lt-mul_of_pos_right hi (pow_pos L)) (le_of_eq (sym (scaled (suc q) L c))) in
    rest (size (n / c)) (size_gt (n / c) (q + L) ((le-div_iff_mul-le C).1 l)) (size-le (n / c) (suc q + L) ((div-lt_iff_lt-mul C).1 h))
  where
    rest : (z : ℕ) → q + L < z → z ≤ suc q + L → z - suc q ≡ L
    rest z a b = omega arith

in_ones : (x : Float) (w U : ℕ) → 0 < U → HasValue x false (w * U) U → HasValue x false w 1
in_ones nan w U p h = absurd h
in_ones (inf s) w U p h = absurd h
in_ones (fin s m e) w U p h = (h.0, mul-one (m * up e) ∙ eq_of_mul-eq-mul_right U p (m * up e) (w * down e) (h.1 ∙ mul_right_comm w U (down e)))

under_54 : (w : ℕ) → w ≤ 2 ^ 53 → w < 2 ^ 54
under_54 w h = omega arith

pub round-whole_near : (a c : ℕ) → 0 < c → 2 ^ 52 * c ≤ a → a < 2 ^ 53 * c → HasValue (round binary64 false a c) false (closest a c) 1
round-whole_near a c C lo hi =
    let U = 2 ^ low binary64 in
    let d : drop 53 (a * U) c ≡ low binary64 = dropped 52 (low binary64) a c C lo hi in
    let w = closest a c in
    let g : grid binary64 a c ≡ w * U =
    ap (λ (z : ℕ). closest (a * U) (c * 2 ^ z) * 2 ^ z) d
    ∙ ap (λ (z : ℕ). z * U) (closest_same (a * U) (c * U) a c (mul-pos C (pow_pos (low binary64))) C (mul_right_comm a U c ∙ mul_assoc a c U)) in
    let t : w ≤ 2 ^ 53 = under_bound w a c (2 ^ 53) C (closest-half a c C).over (omega arith) in
    let o : w * U < 2 ^ (low binary64 + suc (emax binary64)) =
    lt_of_lt_of_le (mul-lt-mul_of_pos_right (under_54 w t) (pow_pos (low binary64))) (le_trans (le_of_eq (sym (pow-add 2 54 (low binary64)))) (pow_mono {i = 54 + low binary64} {j = low binary64 + 1024} (lit≤ tt))) in
    in_ones (round binary64 false a c) w U (pow_pos (low binary64))
    (subst (λ (z : ℕ). HasValue (round binary64 false a c) false z U) g (round_val binary64 a c (subst (λ (z : ℕ). z < 2 ^ (low binary64 + suc (emax binary64))) (sym g) o)))

abbrev limit : Float
limit = fin false 1 (pos 52)

ones : (a b : ℕ) → a * 1 - b * 1 ≡ a - b
ones a b = omega arith

-- one less
pub whole_before : (n : ℕ) → n < 2 ^ 53 → sub binary64 (of_u64 (suc n)) (fin false 1 (pos 0)) ≡ of_u64 n
unfolding of_int
whole_before n h =
    sub-value binary64 (of_u64 (suc n)) (fin false 1 (pos 0)) (suc n) 1 1 1 (lit< tt) (lit< tt) (whole-value (suc n) h) (refl, refl) (omega arith)
    ∙ ap (λ (z : ℕ). round binary64 false z 1) (less n)
  where
    less : (n : ℕ) → suc n * 1 - 1 * 1 ≡ n
    less n = omega arith

-- x + 2 ^ 52 - 2 ^ 52 is j, which is n or one more
pub record Lands (x : Float) (n : ℕ) : Type 0 where
  pub j : ℕ
  pub least : n ≤ j
  pub most : j ≤ suc n
  pub is : sub binary64 (add binary64 x limit) limit ≡ of_u64 j

-- for a number A / D whose whole part n is below 2 ^ 52
pub lands : (x : Float) (A D n : ℕ) → 0 < D → HasValue x false A D → n * D ≤ A → A < suc n * D → n < 2 ^ 52 → Lands x n
unfolding of_int
lands x A D n p v lo hi small =
    let a = A * 1 + 2 ^ 52 * D in
    let c = D * 1 in
    let C : 0 < c = omega (arith, p) in
    let s : add binary64 x limit ≡ round binary64 false a c = add-value binary64 x limit A D (2 ^ 52) 1 p (lit< tt) v (refl, refl) in
    let w = closest a c in
    let top : suc n * D ≤ 2 ^ 52 * D = mul-le-mul_right D small in
    let h : HasValue (add binary64 x limit) false w 1 = subst (λ (y : Float). HasValue y false w 1) (sym s) (round-whole_near a c C (omega arith) (omega arith)) in
    let half : Half w a c = closest-half a c C in
    let l : 2 ^ 52 + n ≤ w = above_bound w a c (2 ^ 52 + n) C half.under (omega arith) in
    let m : w ≤ 2 ^ 52 + suc n = under_bound w a c (2 ^ 52 + suc n) C half.over (omega arith) in
    record {
      j = w - 2 ^ 52;
      least = omega (arith, l);
      most = omega (arith, m);
      is = sub-value binary64 (add binary64 x limit) limit w 1 (2 ^ 52) 1 (lit< tt) (lit< tt) h (refl, refl) (omega (arith, l))
          ∙ ap (λ (z : ℕ). round binary64 false z 1) (ones w (2 ^ 52));
    }

-- ---- 2 ^ 52 + n by its bits, and so a whole number below 2 ^ 52 as a float
abbrev pub bits_of : ℕ → ℕ
bits_of n = 4841369599423283200 + n

sign-field : (n : ℕ) → n < 2 ^ 52 → leb (2 ^ 63) (bits_of n) ≡ false
sign-field n h = lt-leb (2 ^ 63) (bits_of n) (omega arith)

exponent-field : (n : ℕ) → n < 2 ^ 52 → bits_of n % 2 ^ 63 / 2 ^ 52 ≡ suc 1074
exponent-field n h = omega arith

digits-field : (n : ℕ) → n < 2 ^ 52 → bits_of n % 2 ^ 52 ≡ n
digits-field n h = omega arith

bits-value : (n : ℕ) → n < 2 ^ 52 → HasValue (of_bits binary64 (bits_of n)) false (2 ^ 52 + n) 1
unfolding of_bits of_fields
bits-value n h =
    in_ones (of_bits binary64 (bits_of n)) (2 ^ 52 + n) (2 ^ 1074) (pow_pos 1074)
    (rw (sign-field n h, exponent-field n h, digits-field n h) (odd_sign 53 false (2 ^ 52 + n) 1074 1074))

pub bits-number : (n : ℕ) → n < 2 ^ 52 → T (not (nan_bits binary64 (bits_of n)))
unfolding is_nan
bits-number n h = subst (λ (t : Bool). T (not t)) (sym (nan_bits_is binary64 (bits_of n))) (no_nan (of_bits binary64 (bits_of n)) (bits-value n h))
  where
    no_nan : (x : Float) → HasValue x false (2 ^ 52 + n) 1 → T (not (is_nan x))
    no_nan nan v = v
    no_nan (inf s) v = tt
    no_nan (fin s m e) v = tt

pub bits_float : (n : ℕ) → n < 2 ^ 52 → sub binary64 (of_bits binary64 (bits_of n)) (fin false 1 (pos 52)) ≡ of_u64 n
unfolding of_int
bits_float n h =
    sub-value binary64 (of_bits binary64 (bits_of n)) (fin false 1 (pos 52)) (2 ^ 52 + n) 1 (2 ^ 52) 1 (lit< tt) (lit< tt) (bits-value n h) (refl, refl) (omega arith)
    ∙ ap (λ (z : ℕ). round binary64 false z 1) (rest n)
  where
    rest : (n : ℕ) → (2 ^ 52 + n) * 1 - 2 ^ 52 * 1 ≡ n
    rest n = omega arith
