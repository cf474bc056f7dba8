-- The rank of a confidence among n elements lies from 1 to n, so its two places lie in the list; and a quantile whose lower neighbour is 0 is 0.
-- A list of more than 2 ^ 53 elements, which n as f64 would not count, is left out. Assumes nothing.
use Rattle.std.proofs.Common.{◌≡◌, ℕ, zero, suc, ◌+◌, ◌-◌, ◌*◌, ◌/◌, ◌%◌, ◌^◌, ◌<◌, ◌≤◌, Bool, true, false, cond, not, ◌&&◌, ◌||◌, T, eqb, ltb, ◌⊎◌, List, length, get_or, ℤ, pos, sym, refl, ap, ◌∙◌, subst, inl, inr, true≢false, mul-le-mul_right, mod-lt, div-lt_iff_lt-mul, mul-pos, div-add-mod', mul-one, le_of_mul-le-mul_right, arith, lit<, lit≤, ltb-false, ltb-true, lt-ltb, ne_eqb, eqb-true}
use native.Mathlib.Decide.{dec_le}
use lib.Ieee.{Float, nan, inf, fin, binary64, up, down, neg, lt, eq, le, is_nan, add, sub, mul, round, of_bits, of_int, to_unsigned}
use lib.Ieee.Fits.{down_pos}
use lib.Ieee.Exact.{HasValue}
use lib.Ieee.Order.{round_mono}
use borrow.Author.Tests.{eqb-false}
use Rattle.num.specs.Float.{of_u64, to_u64, clamp_below, clamp_of, cut, is_whole, floor_of, ceil_of}
use Rattle.num.specs.Round.{round_to_u64}
use Rattle.num.specs.Exp.{one, exp_of}
use Rattle.num.specs.Ln.{ln_of}
use Rattle.slices.specs.Sorted.{sorted}
use Rattle.num.proofs.Sign.{unsigned, round-neg, round-unsigned}
use Rattle.num.proofs.Whole.{whole-value}
use Rattle.num.proofs.Value.{whole_of-value}
use Rattle.num.proofs.Values.{sub-value}
use Rattle.rbitcoin_mempool.specs.Quantile.{rank_of, lower_place, upper_place, blend_of, between_neighbors, at_rank, quantile_of, in_unit}

-- a finite float from 1 to n
pub record Inside (r : Float) (n : ℕ) : Type 0 where
  pub m : ℕ
  pub e : ℤ
  pub is : r ≡ fin false m e
  pub low : down e ≤ m * up e
  pub high : m * up e ≤ n * down e

-- ---- the two ends
whole-inside : (x : Float) (n : ℕ) → 0 < n → HasValue x false n 1 → Inside x n
whole-inside nan n h v = absurd v
whole-inside (inf s) n h v = absurd v
whole-inside (fin true m e) n h v = absurd (true≢false v.0)
whole-inside (fin false m e) n h v =
    let w : m * up e ≡ n * down e = sym (mul-one (m * up e)) ∙ v.1 in
    let z : 1 * down e ≤ n * down e = mul-le-mul_right (down e) h in
    record { m = m; e = e; is = refl; low = omega arith; high = omega arith }

one-is : one ≡ fin false 1 (pos 0)
unfolding of_bits
one-is = refl

-- 1 or more, or infinite
abbrev Up : Float → Type 0
Up nan = ⊥
Up (inf s) = s ≡ false
Up (fin s m e) = (s ≡ false) × (down e ≤ m * up e)

raised : (x : Float) → T (not (is_nan x)) → Up (cond (lt x (fin false 1 (pos 0))) (fin false 1 (pos 0)) x)
unfolding is_nan lt
raised nan h = absurd h
raised (inf true) h = (refl, lit≤ tt)
raised (inf false) h = refl
raised (fin true m e) h =
    let k : 0 < m * up e * 1 + 1 * down e = omega (arith, down_pos e) in
    rw (lt-ltb 0 (m * up e * 1 + 1 * down e) k) (refl, lit≤ tt)
raised (fin false m e) h = go (ltb (m * up e * 1) (1 * down e)) refl
  where
    go : (b : Bool) → ltb (m * up e * 1) (1 * down e) ≡ b → Up (cond b (fin false 1 (pos 0)) (fin false m e))
    go true k = (refl, lit≤ tt)
    go false k = (refl, omega (arith, ltb-false (m * up e * 1) (1 * down e) k))

cross : (a b c d n : ℕ) → 0 < d → a ≡ n * d → b * d ≤ a * c → b ≤ n * c
cross a b c d n D e h = let y = ap (λ z. z * c) e in le_of_mul-le-mul_right (let z : b * d ≤ n * c * d = omega arith in z) D

lowered : (x y : Float) (n : ℕ) → 0 < n → HasValue x false n 1 → Up y → Inside (clamp_below y x) n
unfolding lt
lowered nan y n h v u = absurd v
lowered (inf s) y n h v u = absurd v
lowered (fin true k d) y n h v u = absurd (true≢false v.0)
lowered (fin false k d) nan n h v u = absurd u
lowered (fin false k d) (inf true) n h v u = absurd (true≢false u)
lowered (fin false k d) (inf false) n h v u = whole-inside (fin false k d) n h v
lowered (fin false k d) (fin true m e) n h v u = absurd (true≢false u.0)
lowered (fin false k d) (fin false m e) n h v u = go (ltb (k * up d * down e) (m * up e * down d)) refl
  where
    go : (b : Bool) → ltb (k * up d * down e) (m * up e * down d) ≡ b → Inside (cond b (fin false k d) (fin false m e)) n
    go true q = whole-inside (fin false k d) n h v
    go false q =
        record {
          m = m;
          e = e;
          is = refl;
          low = u.1;
          high = cross (k * up d) (m * up e) (down e) (down d) n (down_pos d) (sym (mul-one (k * up d)) ∙ v.1) (ltb-false _ _ q);
        }

-- ---- the product of a confidence and a number is a number
neg-number : (x : Float) → T (unsigned x) → T (not (is_nan (neg x)))
unfolding is_nan neg
neg-number nan u = absurd u
neg-number (inf s) u = tt
neg-number (fin s m e) u = tt

number : (x : Float) → T (unsigned x) → T (not (is_nan x))
unfolding is_nan
number nan u = absurd u
number (inf s) u = tt
number (fin s m e) u = tt

round_number : (s : Bool) (a c : ℕ) → T (not (is_nan (round binary64 s a c)))
round_number false a c = number (round binary64 false a c) (round-unsigned binary64 a c)
round_number true a c = subst (λ (x : Float). T (not (is_nan x))) (round-neg binary64 false a c) (neg-number (round binary64 false a c) (round-unsigned binary64 a c))

product : (c x : Float) (n : ℕ) → in_unit c ≡ true → HasValue x false n 1 → T (not (is_nan (mul binary64 c x)))
unfolding in_unit le lt eq mul of_bits
product nan x n h v = absurd (true≢false (sym h))
product (inf true) x n h v = absurd (true≢false (sym h))
product (inf false) x n h v = absurd (true≢false (sym h))
product (fin s m e) nan n h v = absurd v
product (fin s m e) (inf t) n h v = absurd v
product (fin s m e) (fin t k d) n h v = round_number _ (m * up e * (k * up d)) (down e * down d)

module _ (c : Float) (n : ℕ) (u : in_unit c ≡ true) (h : 0 < n) (l : n ≤ 2 ^ 53) where
  pub rank-inside : Inside (rank_of c n) n
  unfolding rank_of clamp_of
  rank-inside =
      let v = whole-value n l in
      let x = mul binary64 c (of_u64 n) in
      rw one-is (lowered (of_u64 n) (cond (lt x (fin false 1 (pos 0))) (fin false 1 (pos 0)) x) n h v (raised x (product c (of_u64 n) n u v)))

-- ---- the places
at_most : (a d n : ℕ) → 0 < d → a ≤ n * d → a / d ≤ n
at_most a d n D h = let z = (div-lt_iff_lt-mul {k = d} D).1 (let y : a < suc n * d = omega arith in y) in omega (arith, z)

cast-whole : (k n : ℕ) → k ≤ n → n ≤ 2 ^ 53 → to_u64 (of_u64 k) ≤ n
cast-whole k n h l = let z = whole_of-value 64 (of_u64 k) k 1 (lit< tt) (whole-value k (omega arith)) in omega (arith, z)

not-whole : (q d r a n : ℕ) → q * d + r ≡ a → (r ≡ 0 → ⊥) → a ≤ n * d → q < n
not-whole q d r a n e z h = go (dec_le n q)
  where
    go : Dec (n ≤ q) → q < n
    go (no k) = omega arith
    go (yes k) = absurd (z (let y : n * d ≤ q * d = mul-le-mul_right d k in omega arith))

module _ (m : ℕ) (e : ℤ) (n : ℕ) (h : m * up e ≤ n * down e) (l : n ≤ 2 ^ 53) where
  cast_self : to_u64 (fin false m e) ≤ n
  unfolding to_unsigned
  cast_self = omega (arith, at_most (m * up e) (down e) n (down_pos e) h)

  floor-at_most : to_u64 (floor_of (fin false m e)) ≤ n
  unfolding floor_of
  floor-at_most = go (is_whole m e)
    where
      go : (b : Bool) → to_u64 (cond b (fin false m e) (of_u64 (cut m e))) ≤ n
      go true = cast_self
      go false = cast-whole (cut m e) n (at_most (m * up e) (down e) n (down_pos e) h) l

  ceil-at_most : to_u64 (ceil_of (fin false m e)) ≤ n
  unfolding ceil_of
  ceil-at_most = go (is_whole m e) refl
    where
      go : (b : Bool) → is_whole m e ≡ b → to_u64 (cond b (fin false m e) (of_u64 (cut m e + 1))) ≤ n
      go true q = cast_self
      go false q =
          let k = not-whole (cut m e) (down e) (m * up e % down e) (m * up e) n (div-add-mod' (m * up e) (down e)) (eqb-false _ _ q) h in
          cast-whole (cut m e + 1) n (omega arith) l

module _ (r : Float) (n : ℕ) (i : Inside r n) (h : 0 < n) (l : n ≤ 2 ^ 53) where
  pub places-inside : (lower_place r < n) × (upper_place r < n)
  unfolding lower_place upper_place
  places-inside =
      let p = floor-at_most i.m i.e n i.high l in
      let q = ceil-at_most i.m i.e n i.high l in
      (rw i.is (omega arith), rw i.is (omega arith))

-- ---- a lower neighbour of 0: its logarithm is minus infinity
no_log : ln_of (of_u64 0) ≡ inf true
unfolding ln_of of_int round
no_log = refl

sunk : (x y : Float) → (x ≡ nan) ⊎ (x ≡ inf true) → round_to_u64 (exp_of (add binary64 x y)) ≡ 0
unfolding add exp_of round_to_u64 lt neg is_nan of_int round
sunk x nan (inl p) = rw p
sunk x (inf s) (inl p) = rw p
sunk x (fin s m e) (inl p) = rw p
sunk x nan (inr p) = rw p
sunk x (inf true) (inr p) = rw p
sunk x (inf false) (inr p) = rw p
sunk x (fin s m e) (inr p) = rw p

weighed : (p : Float) → T (unsigned p) → (mul binary64 p (inf true) ≡ nan) ⊎ (mul binary64 p (inf true) ≡ inf true)
unfolding mul
weighed nan u = absurd u
weighed (inf true) u = absurd u
weighed (inf false) u = inr refl
weighed (fin true m e) u = absurd u
weighed (fin false zero e) u = inl refl
weighed (fin false (suc m) e) u = inr (rw (ne_eqb (suc m) 0 (λ q. omega arith)))

-- 1 less a share of at most 1 is not negative
at_most-by : (a b : ℕ) → T (ltb a b || (eqb a b && true)) → a ≤ b
at_most-by a b h = go (ltb a b) (eqb a b) refl refl h
  where
    go : (p q : Bool) → ltb a b ≡ p → eqb a b ≡ q → T (p || (q && true)) → a ≤ b
    go true q e f h = omega (arith, ltb-true a b e)
    go false true e f h = omega (arith, eqb-true a b f)
    go false false e f h = absurd h

less : (m : ℕ) (e : ℤ) → T (le (fin false m e) (fin false 1 (pos 0))) → m * up e * 1 ≤ 1 * down e
unfolding le lt eq
less m e h = at_most-by (m * up e * 1) (1 * down e) h

rest : (x : Float) → T (unsigned x) → T (le x (fin false 1 (pos 0))) → T (unsigned (sub binary64 (fin false 1 (pos 0)) x))
unfolding le lt eq
rest nan u h = absurd u
rest (inf true) u h = absurd u
rest (inf false) u h = absurd h
rest (fin true m e) u h = absurd u
rest (fin false m e) u h =
    rw (sub-value binary64 (fin false 1 (pos 0)) (fin false m e) 1 1 (m * up e) (down e) (lit< tt) (down_pos e) (refl, refl) (refl, refl) (less m e h)) (round-unsigned binary64 _ _)

unit-is : round binary64 false 1 1 ≡ fin false 1 (pos 0)
unfolding round
unit-is = refl

-- the difference of a / c and b / d, at most 1, as a float
share : (x y : Float) (a c b d : ℕ) → 0 < c → 0 < d → HasValue x false a c → HasValue y false b d → b * c ≤ a * d → a * d - b * c ≤ c * d
    → T (unsigned (sub binary64 (fin false 1 (pos 0)) (sub binary64 x y)))
share x y a c b d C D v w h g =
    let z = sub-value binary64 x y a c b d C D v w h in
    let le-one : T (le (round binary64 false (a * d - b * c) (c * d)) (fin false 1 (pos 0))) = subst (λ (o : Float). T (le (round binary64 false (a * d - b * c) (c * d)) o)) unit-is (round_mono binary64 (a * d - b * c) (c * d) 1 1 (mul-pos C D) (lit< tt) (omega arith)) in
    rw z (rest (round binary64 false (a * d - b * c) (c * d)) (round-unsigned binary64 _ _) le-one)

part_rest : (q d r a : ℕ) → q * d + r ≡ a → r < d → (q * d ≤ a * 1) × (a * 1 - q * d ≤ d * 1)
part_rest q d r a e h = (omega arith, omega arith)

fraction : (m : ℕ) (e : ℤ) (n : ℕ) → m * up e ≤ n * down e → n ≤ 2 ^ 53 → T (unsigned (sub binary64 one (sub binary64 (fin false m e) (floor_of (fin false m e)))))
unfolding floor_of
fraction m e n h l = rw one-is (go (is_whole m e))
  where
    go : (b : Bool) → T (unsigned (sub binary64 (fin false 1 (pos 0)) (sub binary64 (fin false m e) (cond b (fin false m e) (of_u64 (cut m e))))))
    go true = share (fin false m e) (fin false m e) (m * up e) (down e) (m * up e) (down e) (down_pos e) (down_pos e) (refl, refl) (refl, refl) (omega arith) (omega arith)
    go false =
        let k = at_most (m * up e) (down e) n (down_pos e) h in
        let p = part_rest (cut m e) (down e) (m * up e % down e) (m * up e) (div-add-mod' (m * up e) (down e)) (mod-lt (m * up e) (down_pos e)) in
        share (fin false m e) (of_u64 (cut m e)) (m * up e) (down e) (cut m e) 1 (down_pos e) (lit< tt) (refl, refl) (whole-value (cut m e) (omega arith)) p.0 p.1

module _ (b : ℕ) (r : Float) (n : ℕ) (i : Inside r n) (l : n ≤ 2 ^ 53) where
  blend-zero : blend_of 0 b (sub binary64 r (floor_of r)) ≡ 0
  unfolding blend_of
  blend-zero = rw (no_log, i.is) (sunk _ _ (weighed _ (fraction i.m i.e n i.high l)))

  -- "The quantile of a list whose lower neighbour is 0 and upper isn't is 0"
  pub zero-below : between_neighbors 0 b r ≡ 0
  unfolding between_neighbors
  zero-below = go (eqb 0 b)
    where
      go : (t : Bool) → cond t 0 (blend_of 0 b (sub binary64 r (floor_of r))) ≡ 0
      go true = refl
      go false = blend-zero

-- of a list that has elements
module _ (xs : List ℕ) (c : Float) (u : in_unit c ≡ true) (h : 0 < length xs) (l : length xs ≤ 2 ^ 53) where
  pub quantile_places : (lower_place (rank_of c (length xs)) < length xs) × (upper_place (rank_of c (length xs)) < length xs)
  quantile_places = places-inside (rank_of c (length xs)) (length xs) (rank-inside c (length xs) u h l) h l

  pub quantile-zero : get_or (sorted xs) (lower_place (rank_of c (length xs))) 0 ≡ 0 → quantile_of xs c ≡ 0
  unfolding quantile_of at_rank
  quantile-zero e = rw e (zero-below _ (rank_of c (length xs)) (length xs) (rank-inside c (length xs) u h l) l)
