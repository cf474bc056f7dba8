-- A blend v * a + (1 - v) * b of two whole numbers up to 2 ^ 50, worked out in binary64 and rounded to a whole number: it lies less than 1 from the exact value, and is at most 2 ^ 50.
-- Assumes nothing.
use Rattle.std.proofs.Common.{◌≡◌, ℕ, ◌+◌, ◌-◌, ◌*◌, ◌^◌, ◌<◌, ◌≤◌, false, sym, refl, ap, ◌∙◌, subst, le_trans, le_of_eq, lt_of_lt_of_le, lt_of_le_of_lt, mul-le-mul_right, add-mul, add-sub_of_le, mul-le-mul, lt_of_mul-lt-mul_right, mul-le-mul_left, mul-pos, one-mul, mul-one, le_of_mul-le-mul_right, sub-le, arith, lit<, lit≤}
use lib.Ieee.{Float, binary64, round, add, sub, mul}
use lib.Ieee.Exact.{HasValue}
use Rattle.num.specs.Float.{of_u64}
use Rattle.num.specs.Round.{round_to_u64}
use Rattle.num.proofs.Near.{Close, Rounded, Half, unit, unit-pos, round_near}
use Rattle.num.proofs.Values.{mul-value, add-value, sub-value}
use Rattle.num.proofs.Whole.{whole-value, round-half}
use Rattle.rbitcoin_mempool.specs.Depths.{one64, blended}

-- ---- the errors added up
-- a fraction whose denominator is the unit
cut : (W F U g a : ℕ) → 0 < U → Close W F U g a (U * 1) → (g * F ≤ a * F + U) × (a * F ≤ g * F + U)
cut W F U g a P h = (
  le_of_mul-le-mul_right {m = g * F} {n = a * F + U} {k = U} (omega arith) P,
  le_of_mul-le-mul_right {m = a * F} {n = g * F + U} {k = U} (omega arith) P,
)

-- a sum of two such
cut_sum : (W F U g x y : ℕ) → 0 < U → Close W F U g (x * U + y * U) (U * U) → (g * F ≤ (x + y) * F + U) × ((x + y) * F ≤ g * F + U)
cut_sum W F U g x y P h = (
  le_of_mul-le-mul_right {m = g * F} {n = (x + y) * F + U} {k = U * U} (omega arith) (mul-pos P P),
  le_of_mul-le-mul_right {m = (x + y) * F} {n = g * F + U} {k = U * U} (omega arith) (mul-pos P P),
)

pub record Within1 (m p r q a b : ℕ) : Type 0 where
  pub over : m * q < p * a + r * b + q
  pub under : p * a + r * b < m * q + q

-- the same with each product as one number: 1 / 16 for each of w, x, y, 1 / 8 for s and 1 / 2 for m make 13 / 16
sum_over : (A B C w x y s m c : ℕ) → 0 < C → c ≤ 2 ^ 50 * C → w * 2 ^ 54 ≤ B * 2 ^ 54 + c → x * 16 ≤ A * 16 + C → y * 16 ≤ w * 16 + C → s * 8 ≤ (x + y) * 8 + C → m * 2 ≤ s * 2 + C → m < A + B + C
sum_over A B C w x y s m c h h1 h2 h3 h4 h5 h6 = omega arith

sum-under : (A B C w x y s m c : ℕ) → 0 < C → c ≤ 2 ^ 50 * C → B * 2 ^ 54 ≤ w * 2 ^ 54 + c → A * 16 ≤ x * 16 + C → w * 16 ≤ y * 16 + C → (x + y) * 8 ≤ s * 8 + C → s * 2 ≤ m * 2 + C → A + B < m + C
sum-under A B C w x y s m c h h1 h2 h3 h4 h5 h6 = omega arith

three : (x y z u : ℕ) → (x + y + z) * u ≡ x * u + y * u + z * u
three x y z u = omega arith

-- W / U is 1 - v rounded, X / U and Y / U the two products, S / U their sum, and M the whole number nearest to that; v is p / q, and r is q - p
total : (p r q a b U W X Y S M : ℕ) → 0 < q → 0 < U → b ≤ 2 ^ 50 → Close 1 (2 ^ 54) U W r q → Close (2 ^ 50) 16 U X (p * a) (q * 1)
    → Close (2 ^ 50) 16 U Y (W * b) (U * 1) → Close (2 ^ 51) 8 U S (X * U + Y * U) (U * U) → Half M S U → Within1 M p r q a b
total p r q a b U W X Y S M Q P B w x y s m =
    let y0 = cut (2 ^ 50) 16 U Y (W * b) P y in
    let s0 = cut_sum (2 ^ 51) 8 U S X Y P s in
    let w-over : W * q * 2 ^ 54 * b ≤ (r * U * 2 ^ 54 + q * U) * b = mul-le-mul_right b w.over in
    let w-under : r * U * 2 ^ 54 * b ≤ (W * q * 2 ^ 54 + q * U) * b = mul-le-mul_right b w.under in
    let b-le : b * (q * U) ≤ 2 ^ 50 * (q * U) = mul-le-mul_right (q * U) B in
    let y-over : Y * 16 * q ≤ (W * b * 16 + U) * q = mul-le-mul_right q y0.0 in
    let y-under : W * b * 16 * q ≤ (Y * 16 + U) * q = mul-le-mul_right q y0.1 in
    let s-over : S * 8 * q ≤ ((X + Y) * 8 + U) * q = mul-le-mul_right q s0.0 in
    let s-under : (X + Y) * 8 * q ≤ (S * 8 + U) * q = mul-le-mul_right q s0.1 in
    let m-over : M * U * 2 * q ≤ (S * 2 + U) * q = mul-le-mul_right q m.over in
    let m-under : S * 2 * q ≤ (M * U * 2 + U) * q = mul-le-mul_right q m.under in
    let pos : 0 < q * U = mul-pos Q P in
    record {
      over = lt_of_mul-lt-mul_right U {m = M * q} {n = p * a + r * b + q}
          (lt_of_lt_of_le
          (sum_over (p * a * U) (r * b * U) (q * U) (W * b * q) (X * q) (Y * q) (S * q) (M * q * U) (q * U * b) pos (omega arith) (omega arith) (omega arith) (omega arith) (omega arith) (omega arith))
          (le_of_eq (sym (three (p * a) (r * b) q U))));
      under = lt_of_mul-lt-mul_right U {m = p * a + r * b} {n = M * q + q}
          (lt_of_le_of_lt (le_of_eq (add-mul (p * a) (r * b) U))
          (lt_of_lt_of_le
          (sum-under (p * a * U) (r * b * U) (q * U) (W * b * q) (X * q) (Y * q) (S * q) (M * q * U) (q * U * b) pos (omega arith) (omega arith) (omega arith) (omega arith) (omega arith) (omega arith))
          (le_of_eq (sym (add-mul (M * q) q U)))));
    }

-- ---- the blend
below : (M h : ℕ) → M < h + 1 → M ≤ h
below M h l = omega arith

-- so it lies between whatever a and b lie between
within-hi : (M p r q a b h : ℕ) → 0 < q → p + r ≡ q → a ≤ h → b ≤ h → Within1 M p r q a b → M ≤ h
within-hi M p r q a b h Q e A B w =
    let x : p * a ≤ p * h = mul-le-mul_left p A in
    let y : r * b ≤ r * h = mul-le-mul_left r B in
    let z : (p + r) * h ≡ q * h = ap (λ (k : ℕ). k * h) e in
    below M h (lt_of_mul-lt-mul_right q {m = M} {n = h + 1} (omega arith))

within-lo : (M p r q a b h : ℕ) → 0 < q → p + r ≡ q → h ≤ a → h ≤ b → Within1 M p r q a b → h ≤ M
within-lo M p r q a b h Q e A B w =
    let x : p * h ≤ p * a = mul-le-mul_left p A in
    let y : r * h ≤ r * b = mul-le-mul_left r B in
    let z : (p + r) * h ≡ q * h = ap (λ (k : ℕ). k * h) e in
    below h M (lt_of_mul-lt-mul_right q {m = h} {n = M + 1} (omega arith))

part-le : (p q a : ℕ) → p ≤ q → a ≤ 2 ^ 50 → p * a ≤ 2 ^ 50 * (q * 1)
part-le p q a h A = le_trans (mul-le-mul h A) (omega arith)

sum-le : (X Y U : ℕ) → X ≤ 2 ^ 50 * U → Y ≤ 2 ^ 50 * U → X * U + Y * U ≤ 2 ^ 51 * (U * U)
sum-le X Y U x y =
    let f : X * U ≤ 2 ^ 50 * U * U = mul-le-mul_right U x in
    let g : Y * U ≤ 2 ^ 50 * U * U = mul-le-mul_right U y in
    omega arith

pub record Blend (m p q a b : ℕ) : Type 0 where
  pub over : m * q < p * a + (q - p) * b + q
  pub under : p * a + (q - p) * b < m * q + q
  -- it lies between whatever a and b lie between: in particular it is at most 2 ^ 50, and it is a where a = b
  pub below : (h : ℕ) → a ≤ h → b ≤ h → m ≤ h
  pub above : (h : ℕ) → h ≤ a → h ≤ b → h ≤ m
  pub top : m ≤ 2 ^ 50

at : (x y : Float) (W F a c : ℕ) → x ≡ y → Rounded y W F a c → Rounded x W F a c
at x y W F a c e r = subst (λ (z : Float). Rounded z W F a c) (sym e) r

diff_rounded : (v : Float) (p q : ℕ) → 0 < q → p ≤ q → HasValue v false p q → Rounded (sub binary64 one64 v) 1 (2 ^ 54) (q - p) q
diff_rounded v p q Q l h =
    at (sub binary64 one64 v) (round binary64 false (q - p) q) 1 (2 ^ 54) (q - p) q
    (sub-value binary64 one64 v 1 1 p q (lit< tt) Q (refl, refl) h (omega arith)
    ∙ ap (λ (z : ℕ). round binary64 false (z - p * 1) z) (one-mul q)
    ∙ ap (λ (z : ℕ). round binary64 false (q - z) q) (mul-one p))
    (round_near 0 53 (q - p) q Q refl (le_trans (sub-le q p) (le_of_eq (sym (one-mul q)))))

int-value : (n : ℕ) → n ≤ 2 ^ 50 → HasValue (of_u64 n) false n 1
int-value n h = whole-value n (le_trans h (lit≤ tt))

prod_rounded : (x : Float) (p q n : ℕ) → 0 < q → p ≤ q → n ≤ 2 ^ 50 → HasValue x false p q → Rounded (mul binary64 x (of_u64 n)) (2 ^ 50) 16 (p * n) (q * 1)
prod_rounded x p q n Q l N h =
    at (mul binary64 x (of_u64 n)) (round binary64 false (p * n) (q * 1)) (2 ^ 50) 16 (p * n) (q * 1)
    (mul-value binary64 x (of_u64 n) p q n 1 Q (lit< tt) h (int-value n N))
    (round_near 50 3 (p * n) (q * 1) (mul-pos Q (lit< tt)) refl (part-le p q n l N))

sum_rounded : (x y : Float) (X Y : ℕ) → X ≤ 2 ^ 50 * unit → Y ≤ 2 ^ 50 * unit → HasValue x false X unit → HasValue y false Y unit → Rounded (add binary64 x y) (2 ^ 51) 8 (X * unit + Y * unit) (unit * unit)
sum_rounded x y X Y l k h i =
    at (add binary64 x y) (round binary64 false (X * unit + Y * unit) (unit * unit)) (2 ^ 51) 8 (X * unit + Y * unit) (unit * unit)
    (add-value binary64 x y X unit Y unit unit-pos unit-pos h i)
    (round_near 51 2 (X * unit + Y * unit) (unit * unit) (mul-pos unit-pos unit-pos) refl (sum-le X Y unit l k))

near-whole : (x : Float) (S : ℕ) → S ≤ 2 ^ 51 * unit → HasValue x false S unit → Half (round_to_u64 x) S unit
near-whole x S l h = round-half x S unit unit-pos h (le_trans l (mul-le-mul_right unit (lit≤ tt)))

under_one : (W U : ℕ) → W ≤ 1 * U → W ≤ U
under_one W U h = omega arith

-- the two terms, in units of binary64's smallest value
pub record Terms (v : Float) (a b : ℕ) : Type 0 where
  pub first : ℕ
  pub second : ℕ
  pub first-value : HasValue (mul binary64 v (of_u64 a)) false first unit
  pub second-value : HasValue (mul binary64 (sub binary64 one64 v) (of_u64 b)) false second unit

pub terms : (v : Float) (p q a b : ℕ) → 0 < q → p ≤ q → HasValue v false p q → a ≤ 2 ^ 50 → b ≤ 2 ^ 50 → Terms v a b
terms v p q a b Q l h A B =
    let w = diff_rounded v p q Q l h in
    let x = prod_rounded v p q a Q l A h in
    let y = prod_rounded (sub binary64 one64 v) w.g unit b unit-pos (under_one w.g unit w.close.top) B w.value in
    record { first = x.g; second = y.g; first-value = x.value; second-value = y.value }

pub blend_near : (v : Float) (p q a b : ℕ) → 0 < q → p ≤ q → HasValue v false p q → a ≤ 2 ^ 50 → b ≤ 2 ^ 50 → Blend (blended v a b) p q a b
unfolding blended
blend_near v p q a b Q l h A B =
    let w = diff_rounded v p q Q l h in
    let x = prod_rounded v p q a Q l A h in
    let y = prod_rounded (sub binary64 one64 v) w.g unit b unit-pos (under_one w.g unit w.close.top) B w.value in
    let s = sum_rounded (mul binary64 v (of_u64 a)) (mul binary64 (sub binary64 one64 v) (of_u64 b)) x.g y.g x.close.top y.close.top x.value y.value in
    let m = near-whole (add binary64 (mul binary64 v (of_u64 a)) (mul binary64 (sub binary64 one64 v) (of_u64 b))) s.g s.close.top s.value in
    let t = total p (q - p) q a b unit w.g x.g y.g s.g (blended v a b) Q unit-pos B w.close x.close y.close s.close m in
    let e : p + (q - p) ≡ q = add-sub_of_le l in
    record {
      over = t.over;
      under = t.under;
      below = λ h i j. within-hi (blended v a b) p (q - p) q a b h Q e i j t;
      above = λ h i j. within-lo (blended v a b) p (q - p) q a b h Q e i j t;
      top = within-hi (blended v a b) p (q - p) q a b (2 ^ 50) Q e A B t;
    }
