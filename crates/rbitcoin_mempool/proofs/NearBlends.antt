-- The two blends beside the exact one: less than 1 away, and at most 2 ^ 50 again. Assumes nothing.
use Rattle.std.proofs.Common.{◌≡◌, ℕ, ◌+◌, ◌-◌, ◌*◌, ◌/◌, ◌^◌, ◌<◌, ◌≤◌, min, true, false, ℤ, pos, sym, refl, ap, ◌∙◌, subst, true≢false, le_trans, add_comm, mul-pos, one-mul, zero-mul, arith, lit<, lit≤, le-ltb}
use lib.Ieee.{Float, nan, inf, fin, binary64, up, down, add, sub, mul, round}
use lib.Ieee.Fits.{down_pos}
use lib.Ieee.Back.{round_whole}
use lib.Ieee.Exact.{HasValue}
use lib.Ieee.Scale.{round_same}
use Rattle.num.specs.Float.{of_u64}
use Rattle.num.specs.Round.{round_to_u64}
use Rattle.num.proofs.Bounded.{UpTo}
use Rattle.num.proofs.Finite.{round-zero}
use Rattle.num.proofs.Near.{unit, unit-pos}
use Rattle.num.proofs.Values.{add-value, mul-value}
use Rattle.num.proofs.Whole.{whole-value, round-value}
use Rattle.rbitcoin_mempool.specs.Depths.{one64, blended, warmed}
use Rattle.rbitcoin_mempool.specs.Exact.{InUnit, as_frac, weight, blend, Within}
use Rattle.rbitcoin_mempool.proofs.Blend.{Blend, terms, blend_near}

-- m is near v·a + (1-v)·b, and at most 2 ^ 50
pub record NearBlend (m : ℕ) (v : Float) (a b : ℕ) : Type 0 where
  pub near : Within 1 m (blend (weight v) (as_frac a) (as_frac b))
  pub top : m ≤ 2 ^ 50

over : (m p r q a b : ℕ) → m * q < p * a + r * b + q → m * (q * (1 * 1)) < p * a * 1 + r * b * 1 + 1 * (q * (1 * 1))
over m p r q a b h = omega arith

under : (m p r q a b : ℕ) → p * a + r * b < m * q + q → p * a * 1 + r * b * 1 < m * (q * (1 * 1)) + 1 * (q * (1 * 1))
under m p r q a b h = omega arith

near-blend : (x : ℕ) (m : ℕ) (e : ℤ) (a b : ℕ) → Blend x (m * up e) (down e) a b → NearBlend x (fin false m e) a b
unfolding blend
near-blend x m e a b h =
    record {
      near = record {
        pos = mul-pos (down_pos e) (lit< tt);
        over = over x (m * up e) (down e - m * up e) (down e) a b h.over;
        under = under x (m * up e) (down e - m * up e) (down e) a b h.under;
      };
      top = h.top;
    }

pub blended_near : (v : Float) (a b : ℕ) → UpTo 1 1 v → a ≤ 2 ^ 50 → b ≤ 2 ^ 50 → NearBlend (blended v a b) v a b
blended_near nan a b u A B = absurd u
blended_near (inf s) a b u A B = absurd u
blended_near (fin true m e) a b u A B = absurd u
blended_near (fin false m e) a b u A B = near-blend _ m e a b (blend_near (fin false m e) (m * up e) (down e) a b (down_pos e) (omega arith) (refl, refl) A B)

-- ---- with the terms in the other order
swapped : (x y : Float) (X Y : ℕ) → HasValue x false X unit → HasValue y false Y unit → add binary64 y x ≡ add binary64 x y
swapped x y X Y h k =
    add-value binary64 y x Y unit X unit unit-pos unit-pos k h
    ∙ ap (λ (z : ℕ). round binary64 false z (unit * unit)) (add_comm (Y * unit) (X * unit))
    ∙ sym (add-value binary64 x y X unit Y unit unit-pos unit-pos h k)

other-order : (v : Float) (p q a b : ℕ) → 0 < q → p ≤ q → HasValue v false p q → a ≤ 2 ^ 50 → b ≤ 2 ^ 50 → warmed v b a ≡ blended v a b
unfolding blended warmed
other-order v p q a b Q l h A B =
    let t = terms v p q a b Q l h A B in
    ap round_to_u64 (swapped (mul binary64 v (of_u64 a)) (mul binary64 (sub binary64 one64 v) (of_u64 b)) t.first t.second t.first-value t.second-value)

-- ---- a share of -0: the second number, exactly
zero-product : (m : ℕ) (e : ℤ) (y : Float) (n : ℕ) → m * up e ≡ 0 → HasValue y false n 1 → mul binary64 (fin true m e) y ≡ fin true 0 (pos 0)
unfolding mul
zero-product m e nan n z v = absurd v
zero-product m e (inf s) n z v = absurd v
zero-product m e (fin true k d) n z v = absurd (true≢false v.0)
zero-product m e (fin false k d) n z v = rw z (ap (λ (x : ℕ). round binary64 true x (down e * down d)) (zero-mul (k * up d)) ∙ round-zero true (down e * down d) (mul-pos (down_pos e) (down_pos d)))

one_less : (m : ℕ) (e : ℤ) → m * up e ≡ 0 → sub binary64 one64 (fin true m e) ≡ one64
unfolding sub add
one_less m e z = round_same binary64 false (1 * down e + m * up e * 1) (1 * down e) 1 1 (mul-pos (lit< tt) (down_pos e)) (lit< tt) (omega arith) ∙ at_one
  where
    at_one : round binary64 false 1 1 ≡ one64
    at_one = refl

plus-zero : (y : Float) (n : ℕ) → n ≤ 2 ^ 53 → HasValue y false n 1 → HasValue (add binary64 y (fin true 0 (pos 0))) false n 1
unfolding add
plus-zero nan n l v = absurd v
plus-zero (inf s) n l v = absurd v
plus-zero (fin true k d) n l v = absurd (true≢false v.0)
plus-zero (fin false k d) n l v =
    rw (le-ltb (k * up d * 1) (0 * down d) (omega arith))
    (subst (λ (x : Float). HasValue x false n 1)
    (sym (round_same binary64 false (k * up d * 1 - 0 * down d) (down d * 1) n 1 (mul-pos (down_pos d) (lit< tt)) (lit< tt) (omega (arith, v.1))))
    (round_whole binary64 false n l))

one_times : (b : ℕ) → b ≤ 2 ^ 53 → HasValue (mul binary64 one64 (of_u64 b)) false b 1
one_times b l =
    subst (λ (x : Float). HasValue x false b 1)
    (sym (mul-value binary64 one64 (of_u64 b) 1 1 b 1 (lit< tt) (lit< tt) (refl, refl) (whole-value b l) ∙ ap (λ (z : ℕ). round binary64 false z 1) (one-mul b)))
    (round_whole binary64 false b l)

nearest-is : (b : ℕ) → b ≤ 2 ^ 50 → min ((b * 2 + 1) / (1 * 2)) (2 ^ 64 - 1) ≡ b
nearest-is b l = omega arith

second-only : (m : ℕ) (e : ℤ) (a b : ℕ) → m * up e ≡ 0 → a ≤ 2 ^ 50 → b ≤ 2 ^ 50 → warmed (fin true m e) b a ≡ b
unfolding warmed
second-only m e a b z A B =
    let v = fin true m e in
    let x : add binary64 (mul binary64 (sub binary64 one64 v) (of_u64 b)) (mul binary64 v (of_u64 a)) ≡ add binary64 (mul binary64 one64 (of_u64 b)) (fin true 0 (pos 0)) =
    rw (one_less m e z, zero-product m e (of_u64 a) a z (whole-value a (le_trans A (lit≤ tt)))) in
    let L : b ≤ 2 ^ 53 = le_trans B (lit≤ tt) in
    ap round_to_u64 x ∙ round-value _ b 1 (lit< tt) (plus-zero (mul binary64 one64 (of_u64 b)) b L (one_times b L)) ∙ nearest-is b B

pub warmed_near : (v : Float) (a b : ℕ) → InUnit v → a ≤ 2 ^ 50 → b ≤ 2 ^ 50 → NearBlend (warmed v b a) v a b
unfolding blend
warmed_near nan a b u A B = absurd u
warmed_near (inf s) a b u A B = absurd u
warmed_near (fin false m e) a b u A B =
    subst (λ (x : ℕ). NearBlend x (fin false m e) a b) (sym (other-order (fin false m e) (m * up e) (down e) a b (down_pos e) u (refl, refl) A B))
    (near-blend _ m e a b (blend_near (fin false m e) (m * up e) (down e) a b (down_pos e) u (refl, refl) A B))
warmed_near (fin true m e) a b u A B =
    subst (λ (x : ℕ). NearBlend x (fin true m e) a b) (sym (second-only m e a b u A B))
    (record { near = record { pos = lit< tt; over = omega arith; under = omega arith }; top = B })
