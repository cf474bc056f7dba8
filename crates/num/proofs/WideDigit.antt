-- One digit of 32 bits of a quotient, by a divisor whose top bit is set: the trial digit is the quotient by the divisor's upper half, and falls until it is right. Assumes nothing.
use Rattle.std.proofs.Common.{◌≡◌, ℕ, zero, suc, ◌+◌, ◌-◌, ◌*◌, ◌/◌, ◌%◌, ◌^◌, ◌<◌, ◌≤◌, div-lt_iff_lt-mul, mul-le-mul, div-add-mod', arith}
use native.Mathlib.Nat.{lt-div-mul-add}
use lib.Pow.{le_ones}
use Rattle.num.specs.Wide.{IsDivision}

-- a and b are the divisor's halves, q is no less than the quotient of r * 2 ^ 32 + x, and s is what q leaves of r
pub record Trial (r x a b q s : ℕ) : Type 0 where
  pub left : q * a + s ≡ r
  pub enough : r * 2 ^ 32 + x < (q + 1) * (a * 2 ^ 32 + b)
  pub small : q ≤ 2 ^ 32 + 1

pub product-fits : {q b : ℕ} → q ≤ 2 ^ 32 + 1 → b < 2 ^ 32 → q * b < 2 ^ 64
product-fits h k = omega (arith, mul-le-mul h (le_ones 32 k))

pub factor-above-zero : (q b : ℕ) {n : ℕ} → n < q * b → 1 ≤ q
factor-above-zero zero b h = absurd (omega arith)
factor-above-zero (suc q) b h = omega arith

-- w + p is n modulo 2 ^ 64, and n is less than 2 ^ 64 above p
difference : (n p d w : ℕ) → p ≤ n → n < p + d → d < 2 ^ 64 → w < 2 ^ 64 → (w + p) % 2 ^ 64 ≡ n % 2 ^ 64 → w + p ≡ n
difference n p d w h l hd hw e = omega arith

module _ (r x a b : ℕ) (X : x < 2 ^ 32) where
  pub first : 2 ^ 31 ≤ a → b < 2 ^ 32 → r < a * 2 ^ 32 + b → Trial r x a b (r / a) (r % a)
  first ha hb h =
      let A : 0 < a = omega arith in
      let e : r < r / a * a + a = lt-div-mul-add A in
      let s : r / a < 2 ^ 32 + 2 = (div-lt_iff_lt-mul A).1 (omega arith) in
      record { left = div-add-mod' r a; enough = omega (arith, e); small = omega (arith, s) }

  -- q times the divisor is too much
  pub again : (q s : ℕ) → Trial r x a b q s → s * 2 ^ 32 + x < q * b → Trial r x a b (q - 1) (s + a)
  again zero s t h = absurd (omega arith)
  again (suc q) s t h =
      let e : suc q - 1 ≡ q = omega arith in
      rw e record { left = omega (arith, t.left); enough = omega (arith, t.left); small = omega arith }

  pub done : (q s w : ℕ) → Trial r x a b q s → q * b ≤ s * 2 ^ 32 + x → a * 2 ^ 32 + b < 2 ^ 64 → w < 2 ^ 64 → (w + q * b) % 2 ^ 64 ≡ s % 2 ^ 32 * 2 ^ 32 + x → IsDivision (r * 2 ^ 32 + x) (a * 2 ^ 32 + b) q w
  done q s w t h hd hw e =
      let l : s * 2 ^ 32 + x < q * b + (a * 2 ^ 32 + b) = omega (arith, t.left, t.enough) in
      let f : w + q * b ≡ s * 2 ^ 32 + x = difference (s * 2 ^ 32 + x) (q * b) (a * 2 ^ 32 + b) w h l hd hw (omega arith) in
      record { whole = omega (arith, t.left, f); below = omega (arith, l, f) }
