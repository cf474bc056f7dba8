-- Whole numbers and floats: a whole number up to 2 ^ 53 is a float exactly; `round_to_u64` lies at most a half from its argument, and keeps the order. Assumes nothing.
use Rattle.std.proofs.Common.{◌≡◌, ℕ, ◌+◌, ◌-◌, ◌*◌, ◌/◌, ◌^◌, ◌<◌, ◌≤◌, min, true, false, ◌&&◌, ◌||◌, T, eqb, ltb, pos, sym, refl, ap, ◌∙◌, subst, true≢false, zero-le, le_refl, mul_assoc, mul_comm, div-lt_iff_lt-mul, add-mul, mul-pos, mul-one, div-mul-le_self, le_of_mul-le-mul_right, mul_left_comm, arith, lit<, lit≤, ltb-true, eqb-true}
use native.Mathlib.Nat.{lt-div-mul-add, min-eq_left}
use lib.Ieee.{Float, nan, inf, fin, binary64, up, down, le, add, of_int, round}
use lib.Ieee.Fits.{down_pos}
use lib.Ieee.Bits.{is_true}
use lib.Ieee.Exact.{HasValue}
use lib.Ieee.Back.{round_whole}
use lib.Ieee.Nearest.{div_same, div_mono}
use Rattle.num.specs.Float.{of_u64}
use Rattle.num.specs.Round.{round_to_u64}
use Rattle.num.proofs.Value.{le-by, zero-by}
use Rattle.num.proofs.Values.{add-value}
use Rattle.num.proofs.Near.{Half}

-- ---- a whole number up to 2 ^ 53 is a float exactly, and one more is a sum
pub whole-value : (n : ℕ) → n ≤ 2 ^ 53 → HasValue (of_u64 n) false n 1
unfolding of_int
whole-value n h = round_whole binary64 false n h

pub whole-next : (n : ℕ) → n ≤ 2 ^ 53 → add binary64 (of_u64 n) (fin false 1 (pos 0)) ≡ of_u64 (n + 1)
unfolding of_int
whole-next n h =
    add-value binary64 (of_u64 n) (fin false 1 (pos 0)) n 1 1 1 (lit< tt) (lit< tt) (whole-value n h) (refl, refl)
    ∙ ap (λ (z : ℕ). round binary64 false (z + 1) 1) (mul-one n)

-- ---- rounding to a whole number, by any fraction a / c that the float equals
twofold : (x d a c : ℕ) → x * c ≡ a * d → (x * 2 + d) * (c * 2) ≡ (a * 2 + c) * (d * 2)
twofold x d a c h = omega arith

pub round-value : (x : Float) (a c : ℕ) → 0 < c → HasValue x false a c → round_to_u64 x ≡ min ((a * 2 + c) / (c * 2)) (2 ^ 64 - 1)
unfolding round_to_u64
round-value nan a c C h = absurd h
round-value (inf t) a c C h = absurd h
round-value (fin true m e) a c C h = absurd (true≢false h.0)
round-value (fin false m e) a c C h =
    ap (λ (z : ℕ). min z (2 ^ 64 - 1))
    (div_same (m * up e * 2 + down e) (down e * 2) (a * 2 + c) (c * 2) (mul-pos (down_pos e) (lit< tt)) (mul-pos C (lit< tt)) (twofold (m * up e) (down e) a c h.1))

-- at most a half away, where the result fits a u64
pub round-half : (x : Float) (a c : ℕ) → 0 < c → HasValue x false a c → a ≤ (2 ^ 64 - 1) * c → Half (round_to_u64 x) a c
round-half x a c C h l =
    let m = (a * 2 + c) / (c * 2) in
    let lo : m * (c * 2) ≤ a * 2 + c = div-mul-le_self (a * 2 + c) (c * 2) in
    let hi : a * 2 + c < m * (c * 2) + c * 2 = lt-div-mul-add (mul-pos C (lit< tt)) in
    let t : m < 2 ^ 64 = (div-lt_iff_lt-mul (mul-pos C (lit< tt))).1 (omega arith) in
    let f : m ≤ 2 ^ 64 - 1 = omega (arith, t) in
    subst (λ (z : ℕ). Half z a c) (sym (round-value x a c C h ∙ min-eq_left f)) (record { over = omega arith; under = omega arith })

-- ---- rounding keeps the order
crossed : (a p b q : ℕ) → a * q ≤ b * p → (a * 2 + p) * (q * 2) ≤ (b * 2 + q) * (p * 2)
crossed a p b q h =
    let l : (a * 2 + p) * (q * 2) ≡ a * q * 2 * 2 + p * q * 2 = add-mul (a * 2) p (q * 2) ∙ simp (mul_assoc, mul_comm, mul_left_comm) in
    let r : (b * 2 + q) * (p * 2) ≡ b * p * 2 * 2 + p * q * 2 = add-mul (b * 2) q (p * 2) ∙ simp (mul_assoc, mul_comm, mul_left_comm) in
    omega arith

capped : (a c : ℕ) → min a c ≤ c
capped a c = omega arith

least : (a b c : ℕ) → a ≤ b → min a c ≤ min b c
least a b c h = omega arith

pub round_keeps : (x y : Float) → T (le x y) → round_to_u64 x ≤ round_to_u64 y
unfolding round_to_u64 le
round_keeps nan y h = zero-le
round_keeps (inf true) y h = zero-le
round_keeps (inf false) nan h = absurd h
round_keeps (inf false) (inf true) h = absurd h
round_keeps (inf false) (inf false) h = le_refl (2 ^ 64 - 1)
round_keeps (inf false) (fin t n d) h = absurd h
round_keeps (fin true m e) y h = zero-le
round_keeps (fin false m e) nan h = absurd h
round_keeps (fin false m e) (inf true) h = absurd h
round_keeps (fin false m e) (inf false) h = capped ((m * up e * 2 + down e) / (down e * 2)) (2 ^ 64 - 1)
round_keeps (fin false m e) (fin true n d) h =
    let a = m * up e * down d in
    let z : a ≡ 0 = zero-by a (eqb a (n * up d * down e)) (eqb a 0) (eqb-true a 0) (is_true (eqb a (n * up d * down e) && eqb a 0) h) in
    let k : m * up e ≤ 0 = le_of_mul-le-mul_right {m = m * up e} {n = 0} {k = down d} (omega (arith, z)) (down_pos d) in
    let q : (m * up e * 2 + down e) / (down e * 2) < 1 = (div-lt_iff_lt-mul (mul-pos (down_pos e) (lit≤ tt))).1 (omega (arith, down_pos e, k)) in
    omega (arith, q)
round_keeps (fin false m e) (fin false n d) h =
    let a = m * up e * down d in
    let b = n * up d * down e in
    let l = le-by a b (ltb a b) (eqb a b) (ltb-true a b) (eqb-true a b) (is_true (ltb a b || (eqb a b && true)) h) in
    least ((m * up e * 2 + down e) / (down e * 2)) ((n * up d * 2 + down d) / (down d * 2)) (2 ^ 64 - 1)
    (div_mono (m * up e * 2 + down e) (down e * 2) (n * up d * 2 + down d) (down d * 2) (mul-pos (down_pos e) (lit≤ tt)) (mul-pos (down_pos d) (lit≤ tt))
    (crossed (m * up e) (down e) (n * up d) (down d) l))
