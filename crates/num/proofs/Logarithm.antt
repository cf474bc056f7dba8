-- `ln_of` in each of the three cases that `ln` tells apart; and that a whole number's float is 0 or from 1 up. Assumes nothing.
use Rattle.std.proofs.Common.{◌≡◌, ℕ, ◌+◌, ◌*◌, ◌^◌, ◌<◌, ◌≤◌, Bool, true, false, cond, T, pos, refl, arith, lit≤, le→leb}
use mir.Val.{bool_byte}
use lib.Ieee.{Float, nan, inf, fin, binary64, up, down, mul, le, of_int, round}
use lib.Ieee.Bits.{is_true}
use Rattle.num.proofs.Bounded.{UpTo, AtLeast, round-up-to, round-at-least}
use Rattle.num.specs.Ln.{sqrt2, half, from_one, significand_of, exponent_of, ratio, ln_by, ln_of}

-- ---- a whole number from 1 up, as a float
from-one-at : (x : Float) → UpTo (2 ^ 64) 1 x → AtLeast 1 1 x → T (from_one x)
from-one-at nan u h = absurd u
from-one-at (inf s) u h = absurd u
from-one-at (fin true m e) u h = absurd u
from-one-at (fin false m e) u h = le→leb (down e) (m * up e) (omega arith)

module _ (n : ℕ) (h : n < 2 ^ 64) where
  pub up-to_64 : UpTo (2 ^ 64) 1 (of_int binary64 (pos n))
  unfolding of_int
  up-to_64 = round-up-to 1 (pos 64) (unfold round in refl) n 1 (lit≤ tt) (omega arith)

  pub from_one_lem : 0 < n → T (from_one (of_int binary64 (pos n)))
  unfolding of_int
  from_one_lem l = from-one-at (round binary64 false n 1) up-to_64 (round-at-least 1 (pos 0) (unfold round in refl) n 1 (lit≤ tt) (omega arith))

pub is_from_one : (n : ℕ) (x : Float) → x ≡ of_int binary64 (pos n) → n < 2 ^ 64 → 0 < n → T (from_one x)
is_from_one n x e f h = rw e (from_one_lem n f h)

-- ---- the cases of `ln_of`
pub at_zero : inf true ≡ ln_of (of_int binary64 (pos 0))
unfolding ln_of of_int
at_zero = refl

module _ (x : Float) (h : T (from_one x)) (m : Float) (k : ℕ) (M : m ≡ significand_of x) (K : k ≡ exponent_of x) where
  at-halved : le sqrt2 m ≡ true → ln_by (ratio (mul binary64 m half)) (k + 1) ≡ ln_of x
  unfolding ln_of
  at-halved t = rw (is_true (from_one x) h, ← M, ← K, t)

  at-whole : le sqrt2 m ≡ false → ln_by (ratio m) k ≡ ln_of x
  unfolding ln_of
  at-whole t = rw (is_true (from_one x) h, ← M, ← K, t)

  -- halved and raised by one where m is at least SQRT_2
  pub at_either : (y : Float) → y ≡ cond (le sqrt2 m) (mul binary64 (significand_of x) half) (significand_of x) → ln_by (ratio y) (k + bool_byte (le sqrt2 m)) ≡ ln_of x
  at_either y e = go (le sqrt2 m) refl (rw (← M) at e)
    where
      go : (b : Bool) → le sqrt2 m ≡ b → y ≡ cond (le sqrt2 m) (mul binary64 m half) m → ln_by (ratio y) (k + bool_byte (le sqrt2 m)) ≡ ln_of x
      go true t f = rw (f, t) (at-halved t)
      go false t f = let z : k + 0 ≡ k = omega arith in rw (f, t, z) (at-whole t)

pub byte_le : (b : Bool) → bool_byte b ≤ 1
byte_le true = omega arith
byte_le false = omega arith
