-- The rate of one depth beside the exact one: less than 1 away for each blend of its own arguments, less than 2 for their composition. Assumes nothing.
use Rattle.std.proofs.Common.{◌≡◌, ℕ, ◌+◌, ◌-◌, ◌*◌, ◌^◌, ◌<◌, ◌≤◌, max, Bool, true, false, cond, leb, sym, refl, subst, le_of_lt, mul-le-mul_right, lt_of_mul-lt-mul_right, mul-le-mul_left, mul-lt-mul_of_pos_right, mul-pos, arith, lit<, leb-false, leb-true}
use native.Mathlib.Nat.{max-le}
use mathlib.Core.Option.{Option, none, some}
use lib.Ieee.{Float, nan, inf, fin, le}
use Rattle.rbitcoin_mempool.specs.Depths.{one64, half64, blend_weight, flow_for_depth, warmed, or, greater, blend_sat_kvb, clamped_share, blend_by, warmup_blend, cold_rate, warm_rate, floored, published_depth_rate}
use Rattle.rbitcoin_mempool.specs.Exact.{InUnit, Frac, as_frac, as_fracs, weight, blend, greater_frac, Within, Both, BoundedRate, exact_blend, exact_warm, exact_floor, exact_by, exact_published}
use Rattle.rbitcoin_mempool.proofs.NearBlends.{blended_near, warmed_near}
use Rattle.rbitcoin_mempool.proofs.Units.{share_in, weight-up-to}

-- ---- whole numbers and bounds
pub itself : (k n : ℕ) → 0 < k → Within k n (as_frac n)
itself k n h = record { pos = lit< tt; over = omega arith; under = omega arith }

selves : (k : ℕ) → 0 < k → (o : Option ℕ) → Both (Within k) o (as_fracs o)
selves k h none = tt
selves k h (some n) = itself k n h

wider : (o : Option ℕ) (p : Option Frac) → Both (Within 1) o p → Both (Within 2) o p
wider none none h = tt
wider none (some p) h = h
wider (some n) none h = h
wider (some n) (some p) h = record { pos = h.pos; over = omega (arith, h.over); under = omega (arith, h.under) }

bounded-or : (a b : Option ℕ) → BoundedRate a → BoundedRate b → BoundedRate (or a b)
bounded-or none b h k = k
bounded-or (some a) b h k = h

bounded-greater : (a b : Option ℕ) → BoundedRate a → BoundedRate b → BoundedRate (greater a b)
bounded-greater none b h k = k
bounded-greater (some a) none h k = h
bounded-greater (some a) (some b) h k = max-le h k

bounded_if : (t : Bool) (a : Option ℕ) → BoundedRate a → BoundedRate (cond t a none)
bounded_if true a h = h
bounded_if false a h = tt

pub bounded_flow : (p f : Option ℕ) (n : ℕ) → BoundedRate p → BoundedRate f → BoundedRate (flow_for_depth p f n)
unfolding flow_for_depth
bounded_flow none none n h k = bounded_if (le half64 (blend_weight n)) none tt
bounded_flow (some p) none n h k = bounded_if (le half64 (blend_weight n)) (some p) h
bounded_flow none (some f) n h k = k
bounded_flow (some p) (some f) n h k = max-le h k

bounded_cold : (f h : Option ℕ) → BoundedRate f → BoundedRate h → BoundedRate (cold_rate f h)
unfolding cold_rate
bounded_cold f none a b = tt
bounded_cold f (some h) a b = bounded-greater (some h) f b a

-- ---- `blend_sat_kvb`
module _ (n : ℕ) (N : n ≤ 2 ^ 53) where
  pub blend-beside : (flow hist : Option ℕ) → BoundedRate flow → BoundedRate hist → Both (Within 1) (blend_sat_kvb flow hist n) (exact_blend flow hist n)
  unfolding blend_sat_kvb exact_blend
  blend-beside (some f) (some h) a b = (blended_near (blend_weight n) f h (weight-up-to n N) a b).near
  blend-beside (some f) none a b = itself 1 f (lit< tt)
  blend-beside none h a b = selves 1 (lit< tt) h

  bounded-blend : (flow hist : Option ℕ) → BoundedRate flow → BoundedRate hist → BoundedRate (blend_sat_kvb flow hist n)
  unfolding blend_sat_kvb
  bounded-blend (some f) (some h) a b = (blended_near (blend_weight n) f h (weight-up-to n N) a b).top
  bounded-blend (some f) none a b = a
  bounded-blend none h a b = b

  warm-beside : (flow hist : Option ℕ) → BoundedRate flow → BoundedRate hist → Both (Within 1) (warm_rate n flow hist) (exact_warm n flow hist)
  unfolding warm_rate exact_warm
  warm-beside flow hist a b = go (leb n 1)
    where
      go : (t : Bool) → Both (Within 1) (cond t (or flow hist) (blend_sat_kvb flow hist n)) (cond t (as_fracs (or flow hist)) (exact_blend flow hist n))
      go true = selves 1 (lit< tt) (or flow hist)
      go false = blend-beside flow hist a b

  bounded_warm : (flow hist : Option ℕ) → BoundedRate flow → BoundedRate hist → BoundedRate (warm_rate n flow hist)
  unfolding warm_rate
  bounded_warm flow hist a b = go (leb n 1)
    where
      go : (t : Bool) → BoundedRate (cond t (or flow hist) (blend_sat_kvb flow hist n))
      go true = bounded-or flow hist a b
      go false = bounded-blend flow hist a b

-- ---- the confirm floor: the greater of two keeps the distance
floor_near : (a c : ℕ) (A : Frac) → Within 1 a A → Within 1 (max a c) (greater_frac A (as_frac c))
floor_near a c A h = go (leb (A.num * 1) (c * A.den)) refl
  where
    go : (t : Bool) → leb (A.num * 1) (c * A.den) ≡ t → Within 1 (max a c) (cond t (as_frac c) A)
    go true e =
        let l = leb-true (A.num * 1) (c * A.den) e in
        let b : a < c + 1 = lt_of_mul-lt-mul_right A.den {m = a} {n = c + 1} (omega (arith, h.over)) in
        let q : max a c ≡ c = omega arith in
        subst (λ (z : ℕ). Within 1 z (as_frac c)) (sym q) (itself 1 c (lit< tt))
    go false e = by (leb a c) refl (leb-false (A.num * 1) (c * A.den) e)
      where
        by : (u : Bool) → leb a c ≡ u → c * A.den < A.num * 1 → Within 1 (max a c) A
        by true f l =
            let o = leb-true a c f in
            let q : max a c ≡ c = omega arith in
            let g : a * A.den ≤ c * A.den = mul-le-mul_right A.den o in
            subst (λ (z : ℕ). Within 1 z A) (sym q) (record { pos = h.pos; over = omega (arith, h.pos); under = omega (arith, h.under) })
        by false f l = let o = leb-false a c f in let q : max a c ≡ a = omega arith in subst (λ (z : ℕ). Within 1 z A) (sym q) h

floor-beside : (w : Option ℕ) (W : Option Frac) (c : Option ℕ) → Both (Within 1) w W → Both (Within 1) (greater w c) (exact_floor W c)
unfolding exact_floor
floor-beside none none c h = selves 1 (lit< tt) c
floor-beside none (some W) c h = absurd h
floor-beside (some w) none c h = absurd h
floor-beside (some w) (some W) none h = h
floor-beside (some w) (some W) (some c) h = floor_near w c W h

-- ---- `warmup_blend`
-- m near v·w + (1-v)·c, and w near W: m near v·W + (1-v)·c
up_by : (m w c p r q N D : ℕ) → 0 < D → p ≤ q → w * D < N + 1 * D → m * (q * (1 * 1)) < p * w * 1 + r * c * 1 + 1 * (q * (1 * 1)) → m * (q * (D * 1)) < p * N * 1 + r * c * D + 2 * (q * (D * 1))
up_by m w c p r q N D P l h k =
    let a : m * q * D < (p * w + r * c + q) * D = mul-lt-mul_of_pos_right (omega arith) P in
    let b : p * (w * D) ≤ p * (N + 1 * D) = mul-le-mul_left p (le_of_lt h) in
    let d : p * D ≤ q * D = mul-le-mul_right D l in
    omega arith

down_by : (m w c p r q N D : ℕ) → 0 < D → p ≤ q → N < w * D + 1 * D → p * w * 1 + r * c * 1 < m * (q * (1 * 1)) + 1 * (q * (1 * 1)) → p * N * 1 + r * c * D < m * (q * (D * 1)) + 2 * (q * (D * 1))
down_by m w c p r q N D P l h k =
    let a : (p * w + r * c) * D < (m * q + q) * D = mul-lt-mul_of_pos_right (omega arith) P in
    let b : p * N ≤ p * (w * D + 1 * D) = mul-le-mul_left p (le_of_lt h) in
    let d : p * D ≤ q * D = mul-le-mul_right D l in
    omega arith

first_pos : (q d : ℕ) → 0 < q * (1 * 1) → 0 < d → 0 < q * (d * 1)
first_pos q d h k = mul-pos {m = q} {n = d * 1} (omega arith) (omega arith)

composed : (m w c : ℕ) (v W : Frac) → v.num ≤ v.den → Within 1 w W → Within 1 m (blend v (as_frac w) (as_frac c)) → Within 2 m (blend v W (as_frac c))
unfolding blend
composed m w c v W l h k =
    record {
      pos = first_pos v.den W.den k.pos h.pos;
      over = up_by m w c v.num (v.den - v.num) v.den W.num W.den h.pos l h.over k.over;
      under = down_by m w c v.num (v.den - v.num) v.den W.num W.den h.pos l h.under k.under;
    }

weight-le : (a : Float) → InUnit a → (weight a).num ≤ (weight a).den
weight-le nan u = absurd u
weight-le (inf s) u = absurd u
weight-le (fin true m e) u = omega arith
weight-le (fin false m e) u = u

pub share-beside : (a : Float) → InUnit a → (cold warm : Option ℕ) (W : Option Frac) → BoundedRate cold → BoundedRate warm → Both (Within 1) warm W → Both (Within 2) (blend_by a cold warm) (exact_by a cold W)
unfolding blend_by exact_by
share-beside a u (some c) (some w) (some W) C D h = composed (warmed a c w) w c (weight a) W (weight-le a u) h (warmed_near a w c u D C).near
share-beside a u none (some w) (some W) C D h = go (le one64 a)
  where
    go : (t : Bool) → Both (Within 2) (cond t (some w) none) (cond t (some W) none)
    go true = wider (some w) (some W) h
    go false = tt
share-beside a u cold (some w) none C D h = absurd h
share-beside a u cold none (some W) C D h = absurd h
share-beside a u none none none C D h = tt
share-beside a u (some c) none none C D h = itself 2 c (lit< tt)

-- of its own arguments, whole numbers
pub warmup-beside : (alpha : Float) (cold warm : Option ℕ) → BoundedRate cold → BoundedRate warm → Both (Within 1) (warmup_blend alpha cold warm) (exact_by (clamped_share alpha) cold (as_fracs warm))
unfolding warmup_blend blend_by exact_by
warmup-beside alpha (some c) (some w) C D = (warmed_near (clamped_share alpha) w c (share_in alpha) D C).near
warmup-beside alpha none (some w) C D = go (le one64 (clamped_share alpha))
  where
    go : (t : Bool) → Both (Within 1) (cond t (some w) none) (cond t (some (as_frac w)) none)
    go true = itself 1 w (lit< tt)
    go false = tt
warmup-beside alpha none none C D = tt
warmup-beside alpha (some c) none C D = itself 1 c (lit< tt)

-- ---- `published_depth_rate`
pub published-beside : (n : ℕ) → n ≤ 2 ^ 53 → (alpha : Float) (flow frontier hist confirm : Option ℕ) → BoundedRate flow → BoundedRate frontier → BoundedRate hist → BoundedRate confirm
    → Both (Within 2) (published_depth_rate n alpha flow frontier hist confirm) (exact_published n alpha flow frontier hist confirm)
unfolding published_depth_rate warmup_blend exact_published
published-beside n N alpha flow frontier hist confirm F R H C =
    let w = warm-beside n N flow hist F H in
    let b = bounded_warm n N flow hist F H in
    go (floored n alpha) w b
  where
    go : (t : Bool) → Both (Within 1) (warm_rate n flow hist) (exact_warm n flow hist) → BoundedRate (warm_rate n flow hist)
        → Both (Within 2) (blend_by (clamped_share alpha) (cold_rate frontier hist) (cond t (greater (warm_rate n flow hist) confirm) (warm_rate n flow hist)))
        (exact_by (clamped_share alpha) (cold_rate frontier hist) (cond t (exact_floor (exact_warm n flow hist) confirm) (exact_warm n flow hist)))
    go true w b =
        share-beside (clamped_share alpha) (share_in alpha) (cold_rate frontier hist) (greater (warm_rate n flow hist) confirm) (exact_floor (exact_warm n flow hist) confirm)
        (bounded_cold frontier hist R H) (bounded-greater (warm_rate n flow hist) confirm b C) (floor-beside (warm_rate n flow hist) (exact_warm n flow hist) confirm w)
    go false w b = share-beside (clamped_share alpha) (share_in alpha) (cold_rate frontier hist) (warm_rate n flow hist) (exact_warm n flow hist) (bounded_cold frontier hist R H) b w
