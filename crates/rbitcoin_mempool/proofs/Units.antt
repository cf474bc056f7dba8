-- The clamped warm-up share and the blend weight lie from 0 to 1. Assumes nothing.
use Rattle.std.proofs.Common.{◌≡◌, ℕ, zero, suc, ◌+◌, ◌-◌, ◌*◌, ◌^◌, ◌<◌, ◌≤◌, max, Bool, true, false, cond, ◌&&◌, ◌||◌, T, eqb, ltb, sym, refl, ap, ◌∙◌, subst, true≢false, mul-pos, mul-one, arith, lit<, lit≤, ltb-false, ltb-true, eqb-true}
use lib.Ieee.{Float, nan, inf, fin, binary64, up, down, neg, add, sub, mul, div, lt, le, is_nan, of_bits, of_int, round}
use lib.Ieee.Bits.{is_true}
use lib.Ieee.Exact.{HasValue}
use lib.Ieee.Order.{round_mono}
use lib.Ieee.Scale.{round_same}
use lib.Ieee.Fits.{down_pos}
use Rattle.num.specs.Exp.{horner, exp_of}
use Rattle.num.specs.Float.{of_u64, clamp_of}
use Rattle.num.specs.Round.{round_to_u64}
use Rattle.num.proofs.Bounded.{UpTo}
use Rattle.num.proofs.Decay.{exp-up-to}
use Rattle.num.proofs.Near.{unit, round_near}
use Rattle.num.proofs.Sign.{round-neg}
use Rattle.num.proofs.Value.{le-by}
use Rattle.num.proofs.Values.{sub-value}
use Rattle.num.proofs.Whole.{whole-value}
use Rattle.rbitcoin_mempool.specs.Depths.{zero64, half64, one64, six64, blend_weight, clamped_share}
use Rattle.rbitcoin_mempool.specs.Exact.{InUnit}

-- ---- the share
pub share_in : (alpha : Float) → InUnit (clamped_share alpha)
unfolding clamped_share clamp_of lt
share_in nan = omega arith
share_in (inf s) = omega arith
share_in (fin true m e) = go (ltb 0 (m * up e * 1 + 0 * down e)) refl
  where
    go : (b : Bool) → ltb 0 (m * up e * 1 + 0 * down e) ≡ b → InUnit (cond (lt one64 (cond b zero64 (fin true m e))) one64 (cond b zero64 (fin true m e)))
    go true h = omega arith
    go false h = omega (arith, ltb-false 0 (m * up e * 1 + 0 * down e) h)
share_in (fin false m e) = go (ltb (m * up e * 1) (0 * down e)) refl (ltb (1 * down e) (m * up e * 1)) refl
  where
    go : (b : Bool) → ltb (m * up e * 1) (0 * down e) ≡ b → (t : Bool) → ltb (1 * down e) (m * up e * 1) ≡ t → InUnit (cond (lt one64 (cond b zero64 (fin false m e))) one64 (cond b zero64 (fin false m e)))
    go true h t k = absurd (omega (arith, ltb-true (m * up e * 1) (0 * down e) h))
    go false h true k = rw k (omega arith)
    go false h false k = rw k (omega (arith, ltb-false (1 * down e) (m * up e * 1) k))

-- ---- the weight: 1, 2 and 3 blocks are computed, and from 4 on the exponent is at or below -1/2
unit_of : (x : Float) → UpTo 1 1 x → InUnit x
unit_of nan h = h
unit_of (inf s) h = h
unit_of (fin true m e) h = absurd h
unit_of (fin false m e) h = omega arith

decayed : (y : Float) (g c : ℕ) → HasValue y false g c → T (le half64 y) → UpTo 1 1 (exp_of (neg y))
unfolding neg le
decayed nan g c v h = absurd v
decayed (inf s) g c v h = absurd v
decayed (fin true m e) g c v h = absurd (true≢false v.0)
decayed (fin false m e) g c v h =
    let a = 1 * 1 * down e in
    let b = m * up e * 2 in
    let l = le-by a b (ltb a b) (eqb a b) (ltb-true a b) (eqb-true a b) (is_true (ltb a b || (eqb a b && true)) h) in
    exp-up-to m e (omega (arith, l))

at-half : round binary64 false 1 2 ≡ half64
unfolding round
at-half = refl

-- -u / 6
over_six : (y : Float) (u : ℕ) → HasValue y false u 1 → div binary64 (neg y) six64 ≡ neg (round binary64 false u 6)
unfolding div neg
over_six nan u v = absurd v
over_six (inf s) u v = absurd v
over_six (fin true m e) u v = absurd (true≢false v.0)
over_six (fin false m e) u v =
    round_same binary64 true (m * up e * 1) (3 * 2 * down e) u 6 (mul-pos (lit< tt) (down_pos e)) (lit< tt) (omega (arith, v.1))
    ∙ sym (round-neg binary64 false u 6)

less_one : (n : ℕ) → 1 ≤ n → n ≤ 2 ^ 53 → sub binary64 (of_u64 n) one64 ≡ of_u64 (n - 1)
unfolding of_int
less_one n p h =
    sub-value binary64 (of_u64 n) one64 n 1 1 1 (lit< tt) (lit< tt) (whole-value n h) (refl, refl) (omega arith)
    ∙ ap (λ (z : ℕ). round binary64 false (z - 1) 1) (mul-one n)

far : (n : ℕ) → 4 ≤ n → n ≤ 2 ^ 53 → UpTo 1 1 (blend_weight n)
unfolding blend_weight
far n l h =
    let u = n - 1 in
    let e : max n 1 ≡ n = omega arith in
    let x : div binary64 (neg (sub binary64 (of_u64 (max n 1)) one64)) six64 ≡ neg (round binary64 false u 6) =
    ap (λ (z : ℕ). div binary64 (neg (sub binary64 (of_u64 z) one64)) six64) e
    ∙ ap (λ (z : Float). div binary64 (neg z) six64) (less_one n (omega arith) h)
    ∙ over_six (of_u64 u) u (whole-value u (omega arith)) in
    let r = round_near 53 0 u 6 (lit< tt) refl (omega arith) in
    let m = round_mono binary64 1 2 u 6 (lit< tt) (lit< tt) (omega arith) in
    subst (λ (z : Float). UpTo 1 1 (exp_of z)) (sym x) (decayed (round binary64 false u 6) r.g unit r.value (rw at-half at m))

near : (n : ℕ) → n < 4 → UpTo 1 1 (blend_weight n)
unfolding blend_weight exp_of horner round_to_u64 add sub mul div neg lt is_nan of_bits of_int
near zero h = lit≤ tt
near (suc zero) h = lit≤ tt
near (suc (suc zero)) h = lit≤ tt
near (suc (suc (suc zero))) h = lit≤ tt
near (suc (suc (suc (suc n)))) h = absurd (omega arith)

pub weight-up-to : (n : ℕ) → n ≤ 2 ^ 53 → UpTo 1 1 (blend_weight n)
weight-up-to n h = go (ltb n 4) refl
  where
    go : (b : Bool) → ltb n 4 ≡ b → UpTo 1 1 (blend_weight n)
    go true e = near n (ltb-true n 4 e)
    go false e = far n (ltb-false n 4 e) h

pub weight_in : (n : ℕ) → n ≤ 2 ^ 53 → InUnit (blend_weight n)
weight_in n h = unit_of (blend_weight n) (weight-up-to n h)
