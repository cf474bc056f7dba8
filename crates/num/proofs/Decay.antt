-- The exponential of a number at or below -1/2 lies from 0 to 1: its power of two is at most a half, and its polynomial at most 2. Assumes nothing.
use Rattle.std.proofs.Common.{◌≡◌, ℕ, zero, suc, ◌+◌, ◌-◌, ◌*◌, ◌^◌, ◌≤◌, Bool, true, false, cond, ◌&&◌, ◌||◌, T, eqb, ltb, ℤ, pos, negsuc, sym, refl, ap, ◌∙◌, subst, not-suc-le-zero, mul-le-mul_left, mul-pos, pow-suc, arith, pow_pos, ltb-true, lt-ltb, eqb-true}
use borrow.Author.Tests.{lt-leb}
use lib.Ieee.{Float, nan, inf, fin, binary64, up, down, neg, add, mul, div, lt, le, is_nan, of_bits, of_int, round}
use lib.Ieee.Bits.{is_true}
use lib.Ieee.Fits.{down_pos}
use lib.Ieee.Order.{round_mono}
use Rattle.num.specs.Round.{round_to_u64}
use Rattle.num.specs.Exp.{one, log2e, horner, reduced, signed, power, exp_by, exp_of}
use Rattle.num.proofs.Sign.{unsigned, round-neg, round-unsigned}
use Rattle.num.proofs.Value.{le-by}
use Rattle.num.proofs.Floors.{neg-neg}
use Rattle.num.proofs.Whole.{round_keeps}
use Rattle.num.proofs.Bounded.{Size, UpTo, Turn, start, next, turn_bounded, round-up-to, at_one}
use Rattle.num.proofs.Reduced.{argument-half}

-- ---- the polynomial
turns : (r t : Float) (j : ℕ) → Turn r j t → Turn r 0 (horner r j t)
unfolding horner
turns r t zero w = w
turns r t (suc j) w = turns r (add binary64 one (div binary64 (mul binary64 r t) (of_int binary64 (pos (suc j))))) j (next w)

pub horner-up-to : (r : Float) → Size 1 2 r → UpTo 2 1 (horner r 13 one)
horner-up-to r h = turn_bounded h (turns r one 13 start)

-- ---- times 2 ^ -k, for a k above 0
double : (a c p : ℕ) → a * 1 ≤ 2 * c → 2 ≤ p → a * (1 * 1) * 1 ≤ 1 * (c * p)
double a c p h k = let l : c * 2 ≤ c * p = mul-le-mul_left c k in omega arith

power-is : (k : ℕ) → power true (suc k) ≡ fin false 1 (negsuc k)
power-is k = rw (lt-leb (suc k) 0 (omega arith)) (ap (λ (n : ℕ). fin false 1 (negsuc n)) (less k))
  where
    less : (k : ℕ) → suc k - 1 ≡ k
    less k = omega arith

times : (k : ℕ) (t : Float) → UpTo 2 1 t → UpTo 1 1 (mul binary64 t (fin false 1 (negsuc k)))
unfolding mul
times k nan h = absurd h
times k (inf s) h = absurd h
times k (fin true m e) h = absurd h
times k (fin false m e) h =
    let q : 2 ≤ 2 ^ suc k = omega (arith, pow-suc 2 k, pow_pos k) in
    round-up-to 1 (pos 0) at_one (m * up e * (1 * 1)) (down e * 2 ^ suc k) (mul-pos (down_pos e) (pow_pos (suc k))) (double (m * up e) (down e) (2 ^ suc k) h q)

halved : (k : ℕ) (t : Float) → 1 ≤ k → UpTo 2 1 t → UpTo 1 1 (mul binary64 t (power true k))
halved zero t l h = absurd (not-suc-le-zero l)
halved (suc k) t l h = subst (λ (p : Float). UpTo 1 1 (mul binary64 t p)) (sym (power-is k)) (times k t h)

-- ---- the product with log₂ e is at most -0.72
lower : round binary64 false 3248660424278399 (2 ^ 52) ≡ fin false 3248660424278399 (negsuc 51)
unfolding round
lower = refl

reaches : (m : ℕ) (e : ℤ) → down e ≤ m * up e * 2 → T (le (fin false 3248660424278399 (negsuc 51)) (round binary64 false (m * up e * 3248660424278399) (down e * 2 ^ 51)))
reaches m e h =
    rw lower at (round_mono binary64 3248660424278399 (2 ^ 52) (m * up e * 3248660424278399) (down e * 2 ^ 51) (pow_pos 52) (mul-pos (down_pos e) (pow_pos 51)) (omega arith))

one-is : round_to_u64 (fin false 3248660424278399 (negsuc 51)) ≡ 1
unfolding round_to_u64
one-is = refl

at_least_one : (w : Float) → T (le (fin false 3248660424278399 (negsuc 51)) w) → 1 ≤ round_to_u64 w
at_least_one w h = rw one-is at (round_keeps (fin false 3248660424278399 (negsuc 51)) w h)

below-zero : (w : Float) → T (unsigned w) → T (le (fin false 3248660424278399 (negsuc 51)) w) → lt (neg w) (fin false 0 (pos 0)) ≡ true
unfolding lt neg le
below-zero nan u h = absurd u
below-zero (inf true) u h = absurd u
below-zero (inf false) u h = refl
below-zero (fin true m e) u h = absurd u
below-zero (fin false m e) u h =
    let a = 3248660424278399 * 1 * down e in
    let b = m * up e * 2 ^ 52 in
    let l : a ≤ b = le-by a b (ltb a b) (eqb a b) (ltb-true a b) (eqb-true a b) (is_true (ltb a b || (eqb a b && true)) h) in
    lt-ltb 0 (m * up e * 1 + 0 * down e) (omega (arith, l, down_pos e))

product : (m : ℕ) (e : ℤ) → mul binary64 (fin true m e) log2e ≡ round binary64 true (m * up e * 3248660424278399) (down e * 2 ^ 51)
unfolding mul of_bits
product m e = refl

above : (m : ℕ) (e : ℤ) → lt (fin false 709 (pos 0)) (fin true m e) ≡ false
unfolding lt
above m e = refl

-- ---- the exponential
pub exp-up-to : (m : ℕ) (e : ℤ) → down e ≤ m * up e * 2 → UpTo 1 1 (exp_of (fin true m e))
unfolding exp_of is_nan of_int neg
exp-up-to m e h = go (lt (fin true m e) (fin true 177 (pos 2))) refl
  where
    go : (b : Bool) → lt (fin true m e) (fin true 177 (pos 2)) ≡ b
        → UpTo 1 1 (cond b (fin false 0 (pos 0)) (cond (lt (fin false 709 (pos 0)) (fin true m e)) (inf false) (exp_by (fin true m e) (mul binary64 (fin true m e) log2e))))
    go true g = omega arith
    go false g =
        let x = fin true m e in
        let A = m * up e * 3248660424278399 in
        let B = down e * 2 ^ 51 in
        let w = round binary64 false A B in
        let r = reaches m e h in
        let p : mul binary64 x log2e ≡ neg w = product m e ∙ sym (round-neg binary64 false A B) in
        let n : neg (mul binary64 x log2e) ≡ w = ap neg p ∙ neg-neg w in
        let z : lt (mul binary64 x log2e) (fin false 0 (pos 0)) ≡ true = ap (λ (y : Float). lt y (fin false 0 (pos 0))) p ∙ below-zero w (round-unsigned binary64 A B) r in
        let k : 1 ≤ round_to_u64 (neg (mul binary64 x log2e)) = subst (λ (y : Float). 1 ≤ round_to_u64 y) (sym n) (at_least_one w r) in
        let s : Size 1 2 (reduced x (signed true (round_to_u64 (neg (mul binary64 x log2e))))) = rw z at (argument-half x tt g (above m e)) in
        rw (above m e, z) (halved (round_to_u64 (neg (mul binary64 x log2e))) _ k (horner-up-to _ s))
