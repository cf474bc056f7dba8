-- The bit pattern of a halved significand: one less in the exponent's field. Assumes nothing.
use Rattle.std.proofs.Common.{◌≡◌, ℕ, zero, suc, ◌+◌, ◌-◌, ◌*◌, ◌/◌, ◌%◌, ◌^◌, ◌<◌, ◌≤◌, true, false, not, T, sym, refl, ap, ◌∙◌, true≢false, lt_of_lt_of_le, mul_assoc, mul_comm, one-mul, mul-one, mul_right_comm, mul-div_cancel, arith, leb→le, pow_pos, pow_mono, shl_lt}
use native.Mathlib.Numerals.{unary_clauses}
use lib.Ieee.{Float, nan, inf, fin, binary64, up, down, minus, size, fits, mul, round, to_bits, of_bits, nan_bits, is_nan}
use lib.Ieee.Digits.{size-le}
use lib.Ieee.Fits.{down_pos, round-fits}
use lib.Ieee.Bits.{of_bits-to_bits, to_bits-of_bits}
use lib.Ieee.Exact.{HasValue, round_exact}
use Rattle.num.proofs.Value.{held}
use Rattle.num.proofs.Values.{mul-value}
use Rattle.num.proofs.BitOrder.{coded, bits-fin, same_bits}
use Rattle.num.proofs.Power.{no_nan}
use Rattle.num.proofs.Fields.{digits, split, unit, pattern, significand-fits, scaled, fields}
use Rattle.num.specs.Ln.{half, from_one, significand_of}

-- ---- a float by its value, in units of 2 ^ -1074
units_of : (a c q : ℕ) → 0 < c → a * 2 ^ 1074 ≡ q * c → a * 2 ^ 1074 / c ≡ q
units_of a c q h e = ap (λ (z : ℕ). z / c) e ∙ mul-div_cancel q h

bits_of : (y : Float) (a l j : ℕ) → HasValue y false a (2 ^ l) → 2 ^ 1074 ≡ 2 ^ j * 2 ^ l → to_bits binary64 y ≡ coded binary64 (a * 2 ^ j)
bits_of nan a l j h e = absurd h
bits_of (inf s) a l j h e = absurd h
bits_of (fin true n d) a l j h e = absurd (true≢false h.0)
bits_of (fin false n d) a l j h e =
    bits-fin binary64 n d
    ∙ ap (coded binary64) (units_of (n * up d) (down d) (a * 2 ^ j) (down_pos d) (
    ap (λ (z : ℕ). n * up d * z) (e ∙ mul_comm (2 ^ j) (2 ^ l))
    ∙ sym (mul_assoc (n * up d) (2 ^ l) (2 ^ j))
    ∙ ap (λ (z : ℕ). z * 2 ^ j) h.1
    ∙ mul_right_comm a (down d) (2 ^ j)
    ))

half-value : HasValue half false 1 2
unfolding of_bits
half-value = (refl, refl)

twice : (L : ℕ) → 2 ^ L * 2 ≡ 2 ^ suc L
twice L = simp unary_clauses

-- ---- m * 2 ^ -L, halved
module _ (m L : ℕ) (f : T (fits binary64 (fin false (suc m) (minus 0 L)))) (small : suc m < 2 ^ 53) (l : L ≤ 52) where
  value : (i : ℕ) → HasValue (fin false (suc m) (minus 0 i)) false (suc m) (2 ^ i)
  value i = (refl, rw ((unit i).0, (unit i).1, mul-one))

  abbrev less : Float
  less = fin false (suc m) (minus 0 (suc L))

  product : mul binary64 (fin false (suc m) (minus 0 L)) half ≡ round binary64 false (suc m) (2 ^ suc L)
  product = rw (mul-one, twice L) at (mul-value binary64 (fin false (suc m) (minus 0 L)) half (suc m) (2 ^ L) 1 2 (pow_pos L) (omega arith) (value L) half-value)

  units : 2 ^ 1074 ≡ 2 ^ (1074 - suc L) * 2 ^ suc L
  units = split 1074 (suc L) (omega arith)

  exact : HasValue (round binary64 false (suc m) (2 ^ suc L)) false (suc m) (2 ^ suc L)
  exact =
      round_exact binary64 false (suc m) (2 ^ suc L) (suc m) (1074 - suc L) (pow_pos (suc L)) small
      (lt_of_lt_of_le (shl_lt 53 (1074 - suc L) small) (pow_mono {i = 53 + (1074 - suc L)} {j = 2098} (omega arith)))
      (ap (λ (z : ℕ). suc m * z) units ∙ sym (mul_assoc (suc m) (2 ^ (1074 - suc L)) (2 ^ suc L)))

  less-fits : T (fits binary64 less)
  less-fits = significand-fits m (minus 0 L) (suc L) f (omega arith)

  is-less : mul binary64 (fin false (suc m) (minus 0 L)) half ≡ less
  is-less =
      product
      ∙ same_bits binary64 (round binary64 false (suc m) (2 ^ suc L)) less (round-fits binary64 false (suc m) (2 ^ suc L)) less-fits
      (bits_of (round binary64 false (suc m) (2 ^ suc L)) (suc m) (suc L) (1074 - suc L) exact units ∙ sym (bits_of less (suc m) (suc L) (1074 - suc L) (value (suc L)) units))

-- ---- the significand of a value from 1 up, halved
abbrev pub lowered : ℕ → ℕ
lowered b = b % 2 ^ 52 + 1022 * 2 ^ 52

pub record Halved (x : Float) : Type 0 where
  pub bits : of_bits binary64 (lowered (to_bits binary64 x)) ≡ mul binary64 (significand_of x) half
  pub number : T (not (nan_bits binary64 (lowered (to_bits binary64 x))))

pub halved : (x : Float) → T (fits binary64 x) → T (from_one x) → Halved x
unfolding is_nan
halved nan f h = absurd h
halved (inf s) f h = absurd h
halved (fin true m e) f h = absurd h
halved (fin false zero e) f h = absurd (omega (arith, down_pos e, leb→le (down e) (0 * up e) h))
halved (fin false (suc m) e) f h =
    let x = fin false (suc m) e in
    let L = size (suc m) - 1 in
    let b = scaled (to_bits binary64 x) in
    let F = fields x f h in
    let small = (held false m e f).0 in
    let l : L ≤ 52 = omega (arith, size-le (suc m) 53 small) in
    let g = significand-fits m e L f (omega arith) in
    let s : of_bits binary64 b ≡ fin false (suc m) (minus 0 L) = unfold significand_of in F.significand in
    let p = pattern (suc m) (minus 0 L) (1074 - L) L (whole L (omega arith)) (digits m) l (omega arith) in
    let q = pattern (suc m) (minus 0 (suc L)) (1074 - suc L) L (whole (suc L) (omega arith)) (digits m) l (omega arith) in
    let w : b ≡ to_bits binary64 (fin false (suc m) (minus 0 L)) = sym (to_bits-of_bits binary64 b (omega arith) (rw s tt)) ∙ ap (to_bits binary64) s in
    let v : lowered (to_bits binary64 x) ≡ to_bits binary64 (fin false (suc m) (minus 0 (suc L))) = omega (arith, w, p, q) in
    let r : of_bits binary64 (lowered (to_bits binary64 x)) ≡ fin false (suc m) (minus 0 (suc L)) = ap (of_bits binary64) v ∙ of_bits-to_bits binary64 (fin false (suc m) (minus 0 (suc L))) (less-fits m L g small l) in
    record { bits = r ∙ sym (unfold significand_of in is-less m L g small l); number = no_nan _ (suc m) (minus 0 (suc L)) r }
  where
    whole : (i : ℕ) → i ≤ 1074 → up (minus 0 i) * 2 ^ 1074 ≡ 2 ^ (1074 - i) * down (minus 0 i)
    whole i a = rw ((unit i).0, (unit i).1, one-mul) (split 1074 i a)
