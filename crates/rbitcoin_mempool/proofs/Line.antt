-- A straight line from `left` at the depth d0 to `right` at d1, rounded to the nearest whole number, halves up, and held between `right` and `left`.
-- Where left and right lie less than 2 from two fractions, it lies less than 5 / 2 from the exact line between those; it never rises with the depth; and it is what `lerp_sat_kvb` gives for falling ends.
-- Assumes nothing.
use Rattle.std.proofs.Common.{◌≡◌, ℕ, suc, ◌+◌, ◌-◌, ◌*◌, ◌/◌, ◌%◌, ◌<◌, ◌≤◌, min, max, Bool, true, false, cond, leb, sym, refl, ap, ◌∙◌, subst, le_trans, le_of_eq, le_of_lt, add_assoc, mul-le-mul_right, mod-lt, div-lt_iff_lt-mul, mul-le-mul, mul-pos, div-add-mod', le-div_iff_mul-le, div-mul-le_self, arith, lit<, ne_eqb, leb-false, leb-true}
use native.Mathlib.Nat.{lt-div-mul-add, min-eq_right, max-eq_right, le-max_left, max-le, min-le_left}
use lib.Ieee.Nearest.{div_mono}
use Rattle.rbitcoin_mempool.specs.Target.{nearest_quotient, lerp_sat_kvb}
use Rattle.rbitcoin_mempool.specs.Exact.{Frac, Within, exact_line}
use Rattle.rbitcoin_mempool.specs.Demand3.{Near}

-- ---- u past d0 and w before d1: (left * w + right * u) / (u + w), to the nearest
abbrev pub nearest : ℕ → ℕ → ℕ → ℕ → ℕ
nearest left right u w = ((left * w + right * u) * 2 + (u + w)) / ((u + w) * 2)

abbrev pub held : ℕ → ℕ → ℕ → ℕ
held left right m = max right (min left m)

unfoldable pub line : ℕ → ℕ → ℕ → ℕ → ℕ → ℕ
line left right d0 d1 t = held left right (nearest left right (t - d0) (d1 - t))

le_of-lt-suc : (m n : ℕ) → m < suc n → m ≤ n
le_of-lt-suc m n h = omega arith

module _ (left right u w : ℕ) (order : right ≤ left) (N : 0 < u + w) where
  not-over : nearest left right u w ≤ left
  not-over =
      let h : right * u ≤ left * u = mul-le-mul_right u order in
      le_of-lt-suc (nearest left right u w) left ((div-lt_iff_lt-mul (mul-pos N (lit< tt))).1 (omega arith))

  not-under : right ≤ nearest left right u w
  not-under =
      let h : right * w ≤ left * w = mul-le-mul_right w order in
      (le-div_iff_mul-le (mul-pos N (lit< tt))).1 (omega arith)

  -- so nothing is ever held back
  held-is : held left right (nearest left right u w) ≡ nearest left right u w
  held-is = ap (λ (z : ℕ). max right z) (min-eq_right not-over) ∙ max-eq_right not-under

-- a / b is L, c / d is R
whole_near : (m a b c d u w left right : ℕ) → 0 < b → 0 < d → 0 < u + w → left * b < a + 2 * b → a < left * b + 2 * b → right * d < c + 2 * d → c < right * d + 2 * d
    → m * ((u + w) * 2) ≤ (left * w + right * u) * 2 + (u + w) → (left * w + right * u) * 2 + (u + w) < m * ((u + w) * 2) + (u + w) * 2
    → Near m (record { num = a * d * w + c * b * u; den = b * d * (u + w) })
whole_near m a b c d u w left right B D N lo lu ro ru mo mu =
    let x : m * ((u + w) * 2) * (b * d) ≤ ((left * w + right * u) * 2 + (u + w)) * (b * d) = mul-le-mul_right (b * d) mo in
    let y : ((left * w + right * u) * 2 + (u + w)) * (b * d) ≤ (m * ((u + w) * 2) + (u + w) * 2) * (b * d) = mul-le-mul_right (b * d) (le_of_lt mu) in
    let du : 1 * w ≤ d * w = mul-le-mul_right w D in
    let bu : 1 * u ≤ b * u = mul-le-mul_right u B in
    let strict : 0 < d * w + b * u = omega arith in
    record { over = over_of strict x; under = under_of strict y }
  where
    over_of : 0 < d * w + b * u → m * ((u + w) * 2) * (b * d) ≤ ((left * w + right * u) * 2 + (u + w)) * (b * d) → m * (b * d * (u + w)) * 2 < (a * d * w + c * b * u) * 2 + 5 * (b * d * (u + w))
    over_of g x =
        let l : suc (left * b) * (d * w) ≤ (a + 2 * b) * (d * w) = mul-le-mul_right (d * w) lo in
        let r : suc (right * d) * (b * u) ≤ (c + 2 * d) * (b * u) = mul-le-mul_right (b * u) ro in
        omega arith

    under_of : 0 < d * w + b * u → ((left * w + right * u) * 2 + (u + w)) * (b * d) ≤ (m * ((u + w) * 2) + (u + w) * 2) * (b * d) → (a * d * w + c * b * u) * 2 < m * (b * d * (u + w)) * 2 + 5 * (b * d * (u + w))
    under_of g y =
        let l : suc a * (d * w) ≤ (left * b + 2 * b) * (d * w) = mul-le-mul_right (d * w) lu in
        let r : suc c * (b * u) ≤ (right * d + 2 * d) * (b * u) = mul-le-mul_right (b * u) ru in
        omega arith

some-gap : (d0 t d1 : ℕ) → d0 < d1 → d0 ≤ t → t ≤ d1 → 0 < t - d0 + (d1 - t)
some-gap d0 t d1 h a b = omega arith

both_gaps : (d0 t d1 : ℕ) → d0 ≤ t → t ≤ d1 → t - d0 + (d1 - t) ≡ d1 - d0
both_gaps d0 t d1 a b = omega arith

line-is : (left right d0 d1 t : ℕ) → right ≤ left → d0 < d1 → d0 ≤ t → t ≤ d1 → line left right d0 d1 t ≡ nearest left right (t - d0) (d1 - t)
unfolding line
line-is left right d0 d1 t o h a b = held-is left right (t - d0) (d1 - t) o (some-gap d0 t d1 h a b)

-- the ends d0 and d1 are included
pub line_near : (left right d0 d1 t : ℕ) (L R : Frac) → right ≤ left → d0 < d1 → d0 ≤ t → t ≤ d1 → Within 2 left L → Within 2 right R
    → Near (line left right d0 d1 t) (exact_line t d0 L d1 R)
unfolding exact_line
line_near left right d0 d1 t L R o f h k l r =
    let u = t - d0 in
    let w = d1 - t in
    let n : 0 < u + w = some-gap d0 t d1 f h k in
    let m = nearest left right u w in
    subst (λ (z : ℕ). Near z (exact_line t d0 L d1 R)) (sym (line-is left right d0 d1 t o f h k))
    (subst (λ (z : ℕ). Near m (record { num = L.num * R.den * (d1 - t) + R.num * L.den * (t - d0); den = L.den * R.den * z })) (both_gaps d0 t d1 h k)
    (whole_near m L.num L.den R.num R.den u w left right l.pos r.pos n l.over l.under r.over r.under
    (div-mul-le_self ((left * w + right * u) * 2 + (u + w)) ((u + w) * 2)) (lt-div-mul-add (mul-pos n (lit< tt)))))

-- ---- it never rises
-- e further on
moves : (left right u w e : ℕ) → right ≤ left → 0 < u + (e + w) → nearest left right (u + e) w ≤ nearest left right u (e + w)
moves left right u w e o N =
    let h : right * e ≤ left * e = mul-le-mul_right e o in
    let s : u + (e + w) ≡ u + e + w = sym (add_assoc u e w) in
    div_mono ((left * w + right * (u + e)) * 2 + (u + e + w)) ((u + e + w) * 2) ((left * (e + w) + right * u) * 2 + (u + (e + w))) ((u + (e + w)) * 2)
    (mul-pos (subst (λ (z : ℕ). 0 < z) s N) (lit< tt)) (mul-pos N (lit< tt))
    (mul-le-mul (omega arith) (le_of_eq (ap (λ (z : ℕ). z * 2) s)))

up_to : (d0 t t' : ℕ) → d0 ≤ t → t ≤ t' → t - d0 + (t' - t) ≡ t' - d0
up_to d0 t t' h k = omega arith

from_there : (t t' d1 : ℕ) → t ≤ t' → t' ≤ d1 → t' - t + (d1 - t') ≡ d1 - t
from_there t t' d1 h k = omega arith

all_gaps : (d0 t t' d1 : ℕ) → d0 < d1 → d0 ≤ t → t ≤ t' → t' ≤ d1 → 0 < t - d0 + (t' - t + (d1 - t'))
all_gaps d0 t t' d1 h a b c = omega arith

pub line-falls : (left right d0 d1 t t' : ℕ) → right ≤ left → d0 < d1 → d0 ≤ t → t ≤ t' → t' ≤ d1 → line left right d0 d1 t' ≤ line left right d0 d1 t
line-falls left right d0 d1 t t' o h a b c =
    let u = t - d0 in
    let e = t' - t in
    let w = d1 - t' in
    let m : nearest left right (u + e) w ≤ nearest left right u (e + w) = moves left right u w e o (all_gaps d0 t t' d1 h a b c) in
    let m1 : nearest left right (t' - d0) w ≤ nearest left right u (e + w) = subst (λ (z : ℕ). nearest left right z w ≤ nearest left right u (e + w)) (up_to d0 t t' a b) m in
    let m2 : nearest left right (t' - d0) w ≤ nearest left right u (d1 - t) = subst (λ (z : ℕ). nearest left right (t' - d0) w ≤ nearest left right u z) (from_there t t' d1 b c) m1 in
    le_trans (le_of_eq (line-is left right d0 d1 t' o h (le_trans a b) c)) (le_trans m2 (le_of_eq (sym (line-is left right d0 d1 t o h a (le_trans b c)))))

-- and it lies between its ends
pub line-between : (left right d0 d1 t : ℕ) → right ≤ left → (right ≤ line left right d0 d1 t) × (line left right d0 d1 t ≤ left)
unfolding line
line-between left right d0 d1 t o =
    let m = nearest left right (t - d0) (d1 - t) in
    (le-max_left right (min left m), max-le o (min-le_left left m))

-- ---- `lerp_sat_kvb` for falling ends
quotient : (n s q : ℕ) → 0 < s → q * (s * 2) ≤ n → n < (q + 1) * (s * 2) → n / (s * 2) ≡ q
quotient n s q S a b =
    let l : q ≤ n / (s * 2) = (le-div_iff_mul-le (mul-pos S (lit< tt))).1 a in
    let h : n / (s * 2) < q + 1 = (div-lt_iff_lt-mul (mul-pos S (lit< tt))).1 b in
    omega arith

pub nearest_quotient_lem : (n s : ℕ) → 0 < s → nearest_quotient n s ≡ (n * 2 + s) / (s * 2)
unfolding nearest_quotient
nearest_quotient_lem n s S = go (leb s (n % s * 2)) refl (div-add-mod' n s) (mod-lt n S)
  where
    go : (b : Bool) → leb s (n % s * 2) ≡ b → n / s * s + n % s ≡ n → n % s < s → cond b (n / s + 1) (n / s) ≡ (n * 2 + s) / (s * 2)
    go true e d l = let m = leb-true s (n % s * 2) e in sym (quotient (n * 2 + s) s (n / s + 1) S (omega arith) (omega arith))
    go false e d l = let m = leb-false s (n % s * 2) e in sym (quotient (n * 2 + s) s (n / s) S (omega arith) (omega arith))

pub lerp-is : (left right d0 d1 t : ℕ) → right ≤ left → d0 < d1 → d0 ≤ t → t ≤ d1 → lerp_sat_kvb d0 left d1 right t ≡ line left right d0 d1 t
unfolding lerp_sat_kvb line
lerp-is left right d0 d1 t o h a b =
    let u = t - d0 in
    let w = d1 - t in
    let S : 0 < d1 - d0 = omega arith in
    let e : min u (d1 - d0) ≡ u = omega arith in
    let f : d1 - d0 - u ≡ w = omega arith in
    let g : d1 - d0 ≡ u + w = omega arith in
    let lo : min left right ≡ right = omega arith in
    let hi : max left right ≡ left = omega arith in
    rw (ne_eqb (d1 - d0) 0 (λ q. omega arith), e, f, lo, hi)
    (ap (λ (z : ℕ). max right (min left z)) (nearest_quotient_lem (left * w + right * u) (d1 - d0) S ∙ ap (λ (z : ℕ). ((left * w + right * u) * 2 + z) / (z * 2)) g))
