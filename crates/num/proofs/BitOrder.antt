-- The bits of floats that are not negative are ordered as the floats, and so are the bits of magnitudes of which none is NaN. Assumes nothing.
use Rattle.std.proofs.Common.{◌≡◌, ℕ, zero, suc, ◌+◌, ◌-◌, ◌*◌, ◌/◌, ◌%◌, ◌^◌, ◌<◌, ◌≤◌, Bool, true, false, not, ◌&&◌, T, eqb, ltb, leb, ℤ, sym, refl, ap, ◌∙◌, subst, ⊎_elim, true≢false, le_of_lt, add_assoc, mul-le-mul_right, mod-eq_of_lt, div-lt_iff_lt-mul, eq-or-lt_of_le, mul-lt-mul_of_pos_right, mul-pos, pow-suc, le-div_iff_mul-le, zero-add, arith, ltb→lt, pow_pos, pow-add, ltb-false, ltb-true, le-ltb, lt-ltb}
use native.Mathlib.Nat.{add-mod_left}
use Rattle.std.specs.Float.{float_with_sign}
use Rattle.std.proofs.lemmas.Float.{T_from_true}
use lib.Ieee.{Float, nan, inf, fin, Format, binary64, is_nan, prec, emax, low, hid, ones, top, size, up, down, lt, to_bits, of_bits, fits}
use lib.Ieee.Fits.{two, reach, down_pos, kept-lt, and_r}
use lib.Ieee.Digits.{size-lt, size-le, size_reaches}
use lib.Ieee.Nearest.{div_mono}
use lib.Ieee.Bits.{of_bits-to_bits}
use Rattle.num.specs.Float.{abs_of, abs_bits}
use Rattle.num.proofs.Sign.{unsigned}

-- a magnitude of n units as a pattern: the leading digits, and how many were dropped
pub coded : Format → ℕ → ℕ
coded f n = (size n - prec f) * hid f + n / 2 ^ (size n - prec f)

double : (p : ℕ) → 2 ≤ p → 2 ^ p ≡ 2 ^ (p - 1) * 2
double zero h = absurd (omega arith)
double (suc q) h = let e : suc q - 1 ≡ q = omega arith in rw e (pow-suc 2 q)

-- with digits dropped, the leading one is kept
leading : (p n k : ℕ) → 2 ≤ p → size n ≡ p + suc k → 2 ^ (p - 1) ≤ n / 2 ^ suc k
leading p n k P e =
    (le-div_iff_mul-le {k = 2 ^ suc k} (pow_pos (suc k))).1
    (subst (λ (z : ℕ). z ≤ n) (pow-add 2 (p - 1) (suc k)) (size_reaches n (p - 1 + suc k) (omega arith)))

scaled : (a q d p : ℕ) → 0 < p → a < q * d → a * p < p * q * d
scaled a q d p P h = omega (arith, mul-lt-mul_of_pos_right h P)

crossed : (a d b e p : ℕ) → a * d ≤ b * e → a * p * d ≤ b * p * e
crossed a d b e p h = omega (arith, mul-le-mul_right p h)

not-below : (x : Float) → lt x x ≡ false
unfolding lt
not-below nan = refl
not-below (inf true) = refl
not-below (inf false) = refl
not-below (fin true m e) = let a = m * up e * down e in le-ltb a a (omega arith)
not-below (fin false m e) = let a = m * up e * down e in le-ltb a a (omega arith)

one_way : (x y : Float) → T (unsigned x) → T (unsigned y) → lt x y ≡ true → lt y x ≡ false
unfolding lt
one_way nan y u v h = absurd u
one_way (inf true) y u v h = absurd u
one_way (inf false) nan u v h = absurd v
one_way (inf false) (inf true) u v h = absurd v
one_way (inf false) (inf false) u v h = refl
one_way (inf false) (fin s n d) u v h = absurd (true≢false (sym h))
one_way (fin true m e) y u v h = absurd u
one_way (fin false m e) nan u v h = absurd v
one_way (fin false m e) (inf true) u v h = absurd v
one_way (fin false m e) (inf false) u v h = refl
one_way (fin false m e) (fin true n d) u v h = absurd v
one_way (fin false m e) (fin false n d) u v h =
    let a = m * up e * down d in
    let b = n * up d * down e in
    le-ltb b a (le_of_lt (ltb-true a b h))

module _ (f : Format) where
  coded_mono : (n m : ℕ) → n ≤ m → coded f n ≤ coded f m
  unfolding coded
  coded_mono n m h = ⊎_elim same more (eq-or-lt_of_le drops)
    where
      sizes : size n ≤ size m
      sizes = size-le n (size m) (omega (arith, size-lt m))

      drops : size n - prec f ≤ size m - prec f
      drops = omega (arith, sizes)

      same : size n - prec f ≡ size m - prec f → coded f n ≤ coded f m
      same e = rw e (omega (arith, div_mono n (2 ^ (size m - prec f)) m (2 ^ (size m - prec f)) (pow_pos (size m - prec f)) (pow_pos (size m - prec f)) (mul-le-mul_right _ h)))

      more : size n - prec f < size m - prec f → coded f n ≤ coded f m
      more l =
          let k = size m - prec f - 1 in
          let e : size m ≡ prec f + suc k = omega arith in
          let g : size m - prec f ≡ suc k = omega arith in
          let a : (size n - prec f + 1) * hid f ≤ (size m - prec f) * hid f = mul-le-mul_right (hid f) (omega arith) in
          let b : hid f ≤ m / 2 ^ (size m - prec f) = rw g (leading (prec f) m k (two f) e) in
          omega (arith, kept-lt (prec f) n, double (prec f) (two f))

  -- a finite float that is not negative
  pub bits-fin : (m : ℕ) (e : ℤ) → to_bits f (fin false m e) ≡ coded f (m * up e * 2 ^ low f / down e)
  unfolding to_bits coded
  bits-fin m e = rw zero-add

  -- and one that is negative
  pub bits_negative : (m : ℕ) (e : ℤ) → to_bits f (fin true m e) ≡ top f + to_bits f (fin false m e)
  unfolding to_bits
  bits_negative m e = rw (zero-add, add_assoc)

  pub bits-inf : to_bits f (inf false) ≡ ones f * hid f
  unfolding to_bits
  bits-inf = zero-add _

  coded-below : (n k : ℕ) → n < 2 ^ k → k ≤ low f + suc (emax f) → coded f n ≤ ones f * hid f
  unfolding coded
  coded-below n k h l =
      let z : size n ≤ k = size-le n k h in
      let a : (size n - prec f + 2) * hid f ≤ ones f * hid f = mul-le-mul_right (hid f) (omega (arith, two f, reach f)) in
      omega (arith, kept-lt (prec f) n, double (prec f) (two f))

  under_top : (m : ℕ) (e : ℤ) → T (fits f (fin false m e)) → m * up e < 2 ^ suc (emax f) * down e
  unfolding fits
  under_top zero e h = omega (arith, mul-pos (pow_pos (suc (emax f))) (down_pos e))
  under_top (suc m) e h = ltb→lt (suc m * up e) (2 ^ suc (emax f) * down e) (and_r (eqb (suc m % 2) 1 && ltb (suc m) (2 ^ prec f) && leb (down e) (2 ^ low f)) (ltb (suc m * up e) (2 ^ suc (emax f) * down e)) h)

  pub below_inf : (m : ℕ) (e : ℤ) → T (fits f (fin false m e)) → to_bits f (fin false m e) ≤ to_bits f (inf false)
  below_inf m e h = rw (bits-fin m e, bits-inf) (coded-below _ (low f + suc (emax f)) small (omega arith))
    where
      small : m * up e * 2 ^ low f / down e < 2 ^ (low f + suc (emax f))
      small =
          (div-lt_iff_lt-mul {k = down e} (down_pos e)).1
          (rw (pow-add 2 (low f) (suc (emax f))) (scaled (m * up e) (2 ^ suc (emax f)) (down e) (2 ^ low f) (pow_pos (low f)) (under_top m e h)))

  pub bits_mono : (x y : Float) → T (unsigned x) → T (unsigned y) → T (fits f x) → T (fits f y) → lt y x ≡ false → to_bits f x ≤ to_bits f y
  unfolding lt
  bits_mono nan y u v a b h = absurd u
  bits_mono (inf true) y u v a b h = absurd u
  bits_mono (inf false) nan u v a b h = absurd v
  bits_mono (inf false) (inf true) u v a b h = absurd v
  bits_mono (inf false) (inf false) u v a b h = omega arith
  bits_mono (inf false) (fin s n d) u v a b h = absurd (true≢false h)
  bits_mono (fin true m e) y u v a b h = absurd u
  bits_mono (fin false m e) nan u v a b h = absurd v
  bits_mono (fin false m e) (inf true) u v a b h = absurd v
  bits_mono (fin false m e) (inf false) u v a b h = below_inf m e a
  bits_mono (fin false m e) (fin true n d) u v a b h = absurd v
  bits_mono (fin false m e) (fin false n d) u v a b h = rw (bits-fin m e, bits-fin n d) (coded_mono _ _
      (div_mono (m * up e * 2 ^ low f) (down e) (n * up d * 2 ^ low f) (down d) (down_pos e) (down_pos d)
      (crossed (m * up e) (down d) (n * up d) (down e) (2 ^ low f) (ltb-false (n * up d * down e) (m * up e * down d) h))))

  pub same_bits : (x y : Float) → T (fits f x) → T (fits f y) → to_bits f x ≡ to_bits f y → x ≡ y
  same_bits x y a b e = sym (of_bits-to_bits f x a) ∙ ap (of_bits f) e ∙ of_bits-to_bits f y b

  -- the test on the patterns is the test on the floats
  pub bits-order : (x y : Float) → T (unsigned x) → T (unsigned y) → T (fits f x) → T (fits f y) → ltb (to_bits f x) (to_bits f y) ≡ lt x y
  bits-order x y u v a b = go (lt x y) refl
    where
      go : (t : Bool) → lt x y ≡ t → ltb (to_bits f x) (to_bits f y) ≡ t
      go false e = le-ltb _ _ (bits_mono y x v u b a e)
      go true e =
          lt-ltb _ _
          (⊎_elim
          (λ q. absurd (true≢false (sym e ∙ ap (λ z. lt x z) (sym (same_bits x y a b q)) ∙ not-below x)))
          (λ l. l)
          (eq-or-lt_of_le (bits_mono x y u v a b (one_way x y u v e))))

-- ---- the bits without the sign, by the test that `abs_bits` makes
other_sign : (m : ℕ) (e : ℤ) → T (fits binary64 (fin true m e)) → T (fits binary64 (fin false m e))
unfolding fits
other_sign zero e h = h
other_sign (suc m) e h = h

under : (m : ℕ) (e : ℤ) → T (fits binary64 (fin false m e)) → to_bits binary64 (fin false m e) < 2 ^ 63
under m e h = omega (arith, below_inf binary64 m e h, bits-inf binary64)

-- the pattern without its sign
pub magnitude : (x : Float) → T (fits binary64 x) → T (not (is_nan x)) → to_bits binary64 x % 2 ^ 63 ≡ abs_bits x
unfolding abs_bits is_nan
magnitude nan f h = absurd h
magnitude (inf true) f h = unfold to_bits in refl
magnitude (inf false) f h = unfold to_bits in refl
magnitude (fin false m e) f h = mod-eq_of_lt (under m e f)
magnitude (fin true m e) f h =
    rw (bits_negative binary64 m e) (add-mod_left (2 ^ 63) (to_bits binary64 (fin false m e)) ∙ mod-eq_of_lt (under m e (other_sign m e f)))

same : (x : Float) → float_with_sign false x ≡ abs_of x
unfolding float_with_sign
same nan = refl
same (inf s) = refl
same (fin s m e) = refl

pub bits_of_abs : (x : Float) → is_nan x ≡ false → to_bits binary64 (float_with_sign false x) ≡ abs_bits x
unfolding abs_bits
bits_of_abs x h = rw h (ap (to_bits binary64) (same x))

pub bits_of_nan : (x : Float) → is_nan x ≡ true → abs_bits x ≡ 2 ^ 64 - 1
unfolding abs_bits
bits_of_nan x h = rw h

pub bits_of_number : (x : Float) → fits binary64 x ≡ true → is_nan x ≡ false → to_bits binary64 x % 2 ^ 63 ≡ abs_bits x
bits_of_number x f h = magnitude x (T_from_true _ f) (T_from_true _ (ap not h))

-- for the proof of `abs_bits`
pub ruleset bits_laws = (bits_of_abs, bits_of_nan, bits_of_number)

-- ---- magnitudes that are numbers are ordered as their bits
abs-fits : (x : Float) → T (fits binary64 x) → T (fits binary64 (abs_of x))
abs-fits nan f = f
abs-fits (inf s) f = unfold fits in tt
abs-fits (fin true m e) f = other_sign m e f
abs-fits (fin false m e) f = f

abs-unsigned : (x : Float) → T (not (is_nan x)) → T (unsigned (abs_of x))
unfolding is_nan
abs-unsigned nan h = absurd h
abs-unsigned (inf s) h = tt
abs-unsigned (fin s m e) h = tt

abs_bits_lem : (x : Float) → T (not (is_nan x)) → abs_bits x ≡ to_bits binary64 (abs_of x)
unfolding abs_bits is_nan
abs_bits_lem nan h = absurd h
abs_bits_lem (inf s) h = refl
abs_bits_lem (fin s m e) h = refl

pub abs-order : (x y : Float) → T (fits binary64 x) → T (fits binary64 y) → T (not (is_nan x)) → T (not (is_nan y)) → ltb (abs_bits x) (abs_bits y) ≡ lt (abs_of x) (abs_of y)
abs-order x y a b n m = rw (abs_bits_lem x n, abs_bits_lem y m) (bits-order binary64 (abs_of x) (abs_of y) (abs-unsigned x n) (abs-unsigned y m) (abs-fits x a) (abs-fits y b))
