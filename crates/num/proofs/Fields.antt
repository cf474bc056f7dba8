-- The bit pattern of a value from 1 up: its two fields are the exponent, raised by 1023, and the digits of the significand. Assumes nothing.
use Rattle.std.proofs.Common.{◌≡◌, ℕ, zero, suc, ◌+◌, ◌-◌, ◌*◌, ◌/◌, ◌%◌, ◌^◌, ◌<◌, ◌≤◌, true, false, not, ◌&&◌, T, eqb, ltb, leb, ℤ, pos, negsuc, sym, refl, ap, ◌∙◌, subst, le_trans, le_of_eq, lt_of_lt_of_le, lt_of_le_of_lt, lt_irrefl, mul-le-mul_right, mul_assoc, mul_comm, le_antisymm, suc-add, one-mul, lt_of_not-le, mul-one, mul-div_cancel, arith, leb→le, pow_pos, pow_mono, pow-add, shl_lt, lt-ltb, le-leb}
use borrow.Author.Tests.{lt-leb}
use lib.Ieee.{Float, nan, inf, fin, binary64, up, down, minus, size, fits, is_nan, to_bits, of_bits, nan_bits}
use lib.Ieee.Digits.{back, size-lt, size-le, size_reaches}
use lib.Ieee.Fits.{down_pos, and_i, and_l}
use lib.Ieee.Bits.{of_bits-to_bits, to_bits-lt}
use Rattle.num.proofs.Value.{held}
use Rattle.num.proofs.Power.{no_nan}
use Rattle.num.specs.Ln.{from_one, significand_of, exponent_of}

-- ---- how many digits a number has
pow_lt_back : (a l : ℕ) → 2 ^ a < 2 ^ l → a < l
pow_lt_back a l h = lt_of_not-le (λ (g : l ≤ a). lt_irrefl (2 ^ a) (lt_of_lt_of_le h (pow_mono g)))

size_is : (n s : ℕ) → 2 ^ s ≤ n → n < 2 ^ suc s → size n ≡ suc s
size_is n s a b = le_antisymm (size-le n (suc s) b) (pow_lt_back s (size n) (lt_of_le_of_lt a (size-lt n)))

-- m has suc L digits
pub record Digits (m L : ℕ) : Type 0 where
  pub low : 2 ^ L ≤ m
  pub high : m < 2 ^ suc L

pub digits : (m : ℕ) → Digits (suc m) (size (suc m) - 1)
digits m =
    let s = size (suc m) in
    let h = size-lt (suc m) in
    let p : 0 < s = pow_lt_back 0 s (lt_of_le_of_lt (omega arith) h) in
    let e : s ≡ suc (s - 1) = omega arith in
    record { low = size_reaches (suc m) (s - 1) (omega arith); high = subst (λ (x : ℕ). suc m < 2 ^ x) e h }

pub split : (l a : ℕ) → a ≤ l → 2 ^ l ≡ 2 ^ (l - a) * 2 ^ a
split l a h = ap (λ (x : ℕ). 2 ^ x) (sym (back l a h)) ∙ pow-add 2 (l - a) a

-- ---- the pattern of m * 2 ^ e, which is m * 2 ^ j units
module _ (m : ℕ) (e : ℤ) (j L : ℕ) (u : up e * 2 ^ 1074 ≡ 2 ^ j * down e) (d : Digits m L) (L52 : L ≤ 52) (normal : 52 ≤ L + j) where
  pub pattern : to_bits binary64 (fin false m e) ≡ (L + j - 52) * 2 ^ 52 + m * 2 ^ (52 - L)
  unfolding to_bits
  pattern =
      let n = m * 2 ^ j in
      let k = L + j - 52 in
      let v : m * up e * 2 ^ 1074 / down e ≡ n = ap (λ (x : ℕ). x / down e) (mul_assoc m (up e) (2 ^ 1074) ∙ ap (λ (x : ℕ). m * x) u ∙ sym (mul_assoc m (2 ^ j) (down e))) ∙ mul-div_cancel n (down_pos e) in
      let z : size n ≡ suc (L + j) = size_is n (L + j) (le_trans (le_of_eq (pow-add 2 L j)) (mul-le-mul_right (2 ^ j) d.low)) (subst (λ (x : ℕ). n < 2 ^ x) (suc-add L j) (shl_lt (suc L) j d.high)) in
      let q : n / 2 ^ k ≡ m * 2 ^ (52 - L) =
      ap (λ (x : ℕ). m * 2 ^ x / 2 ^ k) (omega arith) ∙ ap (λ (x : ℕ). m * x / 2 ^ k) (pow-add 2 (52 - L) k) ∙ ap (λ (x : ℕ). x / 2 ^ k) (sym (mul_assoc m (2 ^ (52 - L)) (2 ^ k))) ∙ mul-div_cancel (m * 2 ^ (52 - L)) (pow_pos k) in
      let w : suc (L + j) - 53 ≡ k = omega arith in
      rw (v, z, w, q) (omega arith)

  leading : (2 ^ 52 ≤ m * 2 ^ (52 - L)) × (m * 2 ^ (52 - L) < 2 ^ 53)
  leading = (
    le_trans (le_of_eq (split 52 L L52)) (le_trans (le_of_eq (mul_comm (2 ^ (52 - L)) (2 ^ L))) (mul-le-mul_right (2 ^ (52 - L)) d.low)),
    lt_of_lt_of_le (shl_lt (suc L) (52 - L) d.high) (pow_mono {j = 53} (omega arith)),
  )

  exponent-field : to_bits binary64 (fin false m e) / 2 ^ 52 ≡ L + j - 51
  exponent-field = rw pattern (omega (arith, leading))

  digits-field : to_bits binary64 (fin false m e) % 2 ^ 52 + 1023 * 2 ^ 52 ≡ 1022 * 2 ^ 52 + m * 2 ^ (52 - L)
  digits-field = rw pattern (omega (arith, leading))

-- ---- the significand, m * 2 ^ -L
pub unit : (L : ℕ) → (up (minus 0 L) ≡ 1) × (down (minus 0 L) ≡ 2 ^ L)
unit zero = (refl, refl)
unit (suc i) =
    let e : suc i - 1 ≡ i = omega arith in
    rw (lt-leb (suc i) 0 (omega arith), e) (refl, refl)

pub significand-fits : (m : ℕ) (e : ℤ) (L : ℕ) → T (fits binary64 (fin false (suc m) e)) → L ≤ 53 → T (fits binary64 (fin false (suc m) (minus 0 L)))
significand-fits m e L f l =
    let whole : T (eqb (suc m % 2) 1 && ltb (suc m) (2 ^ 53)) =
    unfold fits in and_l (eqb (suc m % 2) 1 && ltb (suc m) (2 ^ 53)) (leb (down e) (2 ^ 1074)) (and_l (eqb (suc m % 2) 1 && ltb (suc m) (2 ^ 53) && leb (down e) (2 ^ 1074)) (ltb (suc m * up e) (2 ^ 1024 * down e)) f) in
    let h = (held false m e f).0 in
    let a : 2 ^ L ≤ 2 ^ 1074 = pow_mono {j = 1074} (omega arith) in
    let b : suc m * 1 < 2 ^ 1024 * 2 ^ L = lt_of_lt_of_le (rw mul-one h) (le_trans (pow_mono {i = 53} {j = 1024 + L} (omega arith)) (le_of_eq (pow-add 2 1024 L))) in
    unfold fits in rw ((unit L).0, (unit L).1, le-leb (2 ^ L) (2 ^ 1074) a, lt-ltb (suc m * 1) (2 ^ 1024 * 2 ^ L) b) (and_i (eqb (suc m % 2) 1 && ltb (suc m) (2 ^ 53) && true) true (and_i (eqb (suc m % 2) 1 && ltb (suc m) (2 ^ 53)) true whole tt) tt)

-- ---- what the pattern of a value from 1 up tells
abbrev pub scaled : ℕ → ℕ
scaled b = b % 2 ^ 52 + 1023 * 2 ^ 52

pub record Fields (x : Float) : Type 0 where
  pub exponent : to_bits binary64 x / 2 ^ 52 ≡ exponent_of x + 1023
  pub small : exponent_of x < 2 ^ 12
  pub significand : of_bits binary64 (scaled (to_bits binary64 x)) ≡ significand_of x
  pub number : T (not (nan_bits binary64 (scaled (to_bits binary64 x))))

module _ (m : ℕ) (e : ℤ) (j : ℕ) (f : T (fits binary64 (fin false (suc m) e))) (u : up e * 2 ^ 1074 ≡ 2 ^ j * down e) (normal : 1074 ≤ size (suc m) - 1 + j) where
  fields_at : exponent_of (fin false (suc m) e) + 1074 ≡ size (suc m) - 1 + j → Fields (fin false (suc m) e)
  unfolding significand_of
  fields_at k =
      let L = size (suc m) - 1 in
      let d = digits m in
      let l : L ≤ 52 = omega (arith, size-le (suc m) 53 (held false m e f).0) in
      let w : up (minus 0 L) * 2 ^ 1074 ≡ 2 ^ (1074 - L) * down (minus 0 L) = rw ((unit L).0, (unit L).1, one-mul) (split 1074 L (omega arith)) in
      let p = pattern (suc m) (minus 0 L) (1074 - L) L w d l (omega arith) in
      let x : to_bits binary64 (fin false (suc m) e) / 2 ^ 52 ≡ exponent_of (fin false (suc m) e) + 1023 = exponent-field (suc m) e j L u d l (omega arith) ∙ omega arith in
      let s : of_bits binary64 (scaled (to_bits binary64 (fin false (suc m) e))) ≡ fin false (suc m) (minus 0 L) =
      ap (of_bits binary64) (digits-field (suc m) e j L u d l (omega arith) ∙ omega arith) ∙ of_bits-to_bits binary64 (fin false (suc m) (minus 0 L)) (significand-fits m e L f (omega arith)) in
      record { exponent = x; small = omega (arith, to_bits-lt binary64 (fin false (suc m) e) f); significand = s; number = no_nan _ (suc m) (minus 0 L) s }

pub fields : (x : Float) → T (fits binary64 x) → T (from_one x) → Fields x
fields nan f h = absurd h
fields (inf s) f h = absurd h
fields (fin true m e) f h = absurd h
fields (fin false zero e) f h = absurd (omega (arith, down_pos e, leb→le (down e) (0 * up e) h))
fields (fin false (suc m) (pos a)) f h =
    fields_at m (pos a) (a + 1074) f (sym (mul-one (2 ^ (a + 1074)) ∙ pow-add 2 a 1074)) (omega arith) (unfold exponent_of in omega arith)
fields (fin false (suc m) (negsuc a)) f h =
    let d = digits m in
    let L = size (suc m) - 1 in
    let k : suc a < suc L = pow_lt_back (suc a) (suc L) (lt_of_le_of_lt (rw mul-one at (leb→le (2 ^ suc a) (suc m * 1) h)) d.high) in
    let l : size (suc m) ≤ 53 = size-le (suc m) 53 (held false m (negsuc a) f).0 in
    fields_at m (negsuc a) (1074 - suc a) f (one-mul (2 ^ 1074) ∙ split 1074 (suc a) (omega arith)) (omega arith) (unfold exponent_of in omega arith)

pub is_number : (x : Float) → T (from_one x) → T (not (is_nan x))
unfolding is_nan
is_number nan h = absurd h
is_number (inf s) h = tt
is_number (fin s m e) h = tt
