-- The shift that brings a divisor's top bit up, and the words of a number so shifted. Assumes nothing.
use Rattle.std.proofs.Common.{◌≡◌, ℕ, suc, ◌+◌, ◌-◌, ◌*◌, ◌/◌, ◌%◌, ◌^◌, ◌<◌, ◌≤◌, sym, ap, ◌∙◌, mul-le-mul_right, mod-eq_of_lt, mul-lt-mul_of_pos_right, arith, pow_pos, pow-add}
use native.Mathlib.Nat.{div-div-eq-div-mul, mul-div-mul_right}
use lib.Count.{count_leading_zeros, leading_top}

powers : (i j k : ℕ) → i + j ≡ k → 2 ^ i * 2 ^ j ≡ 2 ^ k
powers i j k e = sym (pow-add 2 i j) ∙ ap (λ (n : ℕ). 2 ^ n) e

-- d shifted left by s has its top bit set, and is still a word
pub record Normal (d s : ℕ) : Type 0 where
  pub shift : s ≤ 63
  pub top : 2 ^ 63 ≤ d * 2 ^ s
  pub fits : d * 2 ^ s < 2 ^ 64

normal-at : (d s j : ℕ) → j + s ≡ 63 → 2 ^ j ≤ d → d < 2 ^ suc j → Normal d s
normal-at d s j e h k = record {
  shift = omega arith;
  top = rw (powers j s 63 e) at (mul-le-mul_right (2 ^ s) h);
  fits = rw (powers (suc j) s 64 (omega arith)) at (mul-lt-mul_of_pos_right k (pow_pos s));
}

pub normal : (d : ℕ) → 0 < d → d < 2 ^ 64 → Normal d (count_leading_zeros 64 d)
normal d h k =
    let t = leading_top 64 d h k in
    normal-at d (count_leading_zeros 64 d) t.0 (omega (arith, t.1)) t.2 t.3

-- the bits of l that a shift by s takes over the top
carried : (l s : ℕ) → s ≤ 63 → l / 2 / 2 ^ (63 - s) ≡ l * 2 ^ s / 2 ^ 64
carried l s h =
    let m = 2 * 2 ^ (63 - s) in
    let e : m * 2 ^ s ≡ 2 ^ 64 = omega (arith, powers (63 - s) s 63 (omega arith)) in
    div-div-eq-div-mul l 2 (2 ^ (63 - s)) ∙ sym (mul-div-mul_right l m (pow_pos s)) ∙ ap (λ (n : ℕ). l * 2 ^ s / n) e

-- u and v are the words of h * 2 ^ 64 + l times p, for a divisor d above h
pub record Scaled (h l d p u v : ℕ) : Type 0 where
  pub below : u < d * p
  pub whole : u * 2 ^ 64 + v ≡ (h * 2 ^ 64 + l) * p

scaled : (h l d p : ℕ) → 0 < p → h < d → l < 2 ^ 64 → Scaled h l d p (h * p + l * p / 2 ^ 64) (l * p % 2 ^ 64)
scaled h l d p P H L =
    let k : suc h * p ≤ d * p = mul-le-mul_right p H in
    let m : l * p < 2 ^ 64 * p = mul-lt-mul_of_pos_right L P in
    record { below = omega arith; whole = omega arith }

pub shifted : (h l d s : ℕ) → Normal d s → h < d → l < 2 ^ 64 → Scaled h l d (2 ^ s) (h * 2 ^ s % 2 ^ 64 + l / 2 / 2 ^ (63 - s)) (l * 2 ^ s % 2 ^ 64)
shifted h l d s N H L =
    let e : h * 2 ^ s % 2 ^ 64 ≡ h * 2 ^ s = mod-eq_of_lt (omega (arith, N.fits, mul-le-mul_right (2 ^ s) H)) in
    rw (e, carried l s N.shift) (scaled h l d (2 ^ s) (pow_pos s) H L)
