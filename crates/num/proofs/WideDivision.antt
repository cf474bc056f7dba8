-- Long division: digits put together, and both numbers scaled. Assumes nothing.
use Rattle.std.proofs.Common.{◌≡◌, ℕ, zero, suc, ◌+◌, ◌*◌, ◌/◌, ◌%◌, ◌^◌, ◌<◌, ◌≤◌, sym, refl, ap, ◌∙◌, not-suc-le-zero, mul-le-mul_right, mod-lt, lt_of_mul-lt-mul_right, div-add-mod', le_of_mul-le-mul_right, mul-div_cancel, arith}
use native.Mathlib.Nat.{le_dest}
use lib.Arith.{digits_div, digits_mod}
use Rattle.num.specs.Wide.{IsDivision, divided}

pub plain : (n : ℕ) {d : ℕ} → 0 < d → IsDivision n d (n / d) (n % d)
plain n {d} h = record { whole = div-add-mod' n d; below = mod-lt n h }

pub plain-below : {n d : ℕ} → n < d → IsDivision n d 0 n
plain-below h = record { whole = omega arith; below = h }

-- of one word
pub upper-zero : {h d : ℕ} (l : ℕ) → h ≡ 0 → 0 < d → IsDivision (h * 2 ^ 64 + l) d (l / d) (l % d)
upper-zero l h k =
    let e : 0 * 2 ^ 64 + l ≡ l = omega arith in
    rw (h, e) (plain l k)

-- a further digit l in base b
pub next : {n d q r s t : ℕ} (b l : ℕ) → IsDivision n d q r → IsDivision (r * b + l) d s t → IsDivision (n * b + l) d (q * b + s) t
next {n} {d} {q} {r} {s} {t} b l h k =
    let e : (q * d + r) * b ≡ n * b = ap (λ (x : ℕ). x * b) h.whole in
    record { whole = omega (arith, k.whole); below = k.below }

-- a digit of the quotient is below the base
pub digit-below : {d q t : ℕ} (r b l : ℕ) → r < d → l < b → IsDivision (r * b + l) d q t → q < b
digit-below {d} {q} {t} r b l h k e =
    let m : suc r * b ≤ d * b = mul-le-mul_right b h in
    lt_of_mul-lt-mul_right d (omega (arith, e.whole))

-- the word l in two digits of 32 bits
pub record TwoDigits (n d q s t : ℕ) : Type 0 where
  pub upper : q < 2 ^ 32
  pub lower : s < 2 ^ 32
  pub division : IsDivision n d (q * 2 ^ 32 + s) t

pub two_digits : {d q r s t : ℕ} (h l : ℕ) → h < d → l < 2 ^ 64 → IsDivision (h * 2 ^ 32 + l / 2 ^ 32) d q r → IsDivision (r * 2 ^ 32 + l % 2 ^ 32) d s t → TwoDigits (h * 2 ^ 64 + l) d q s t
two_digits {r = r} h l k m e f =
    let n : (h * 2 ^ 32 + l / 2 ^ 32) * 2 ^ 32 + l % 2 ^ 32 ≡ h * 2 ^ 64 + l = omega arith in
    record {
      upper = digit-below h (2 ^ 32) (l / 2 ^ 32) k (omega arith) e;
      lower = digit-below r (2 ^ 32) (l % 2 ^ 32) e.below (omega arith) f;
      division = rw n at (next (2 ^ 32) (l % 2 ^ 32) e f);
    }

-- both numbers times p
pub unscaled : {n d q r : ℕ} (p : ℕ) → 0 < p → IsDivision (n * p) (d * p) q r → IsDivision n d q (r / p)
unscaled {n} {d} {q} {r} p h e =
    let f : q * d ≤ n = le_of_mul-le-mul_right (omega (arith, e.whole)) h in
    let t = le_dest f in
    let g : r ≡ t.0 * p = omega (arith, e.whole, ap (λ (x : ℕ). x * p) t.1) in
    let k : r / p ≡ t.0 = ap (λ (x : ℕ). x / p) g ∙ mul-div_cancel t.0 h in
    record { whole = rw k t.1; below = rw k (lt_of_mul-lt-mul_right p (omega (arith, e.below))) }

-- a division is the only one
pub is-divided : {n d q r : ℕ} → IsDivision n d q r → (q, r) ≡ divided n d
unfolding divided
is-divided {d = zero} e = absurd (not-suc-le-zero e.below)
is-divided {n = n} {d = suc d} {q = q} {r = r} e =
    let h : q ≡ n / suc d = sym (digits_div q e.below) ∙ ap (λ (x : ℕ). x / suc d) e.whole in
    let k : r ≡ n % suc d = sym (digits_mod q e.below) ∙ ap (λ (x : ℕ). x % suc d) e.whole in
    cc

pub by_zero : (n : ℕ) {d : ℕ} → d ≡ 0 → (0, 0) ≡ divided n d
unfolding divided
by_zero n h = rw h refl
