-- A float differs from itself where it is NaN, and the patterns above infinity's are the NaNs', with the sign taken off.
-- Assumes nothing.
use Rattle.std.proofs.Common.{◌≡◌, ℕ, ◌<◌, ◌%◌, Bool, true, false, T, sym, subst, refl, ◌∙◌, true≢false, lt-ltb}
use lib.Ieee.{Float, nan, inf, fin, binary64, ne, is_nan, of_bits}
use lib.Ieee.Compare.{differs_from_itself}
use lib.Ieee.Bits.{nan_bits_is, nan_bits_above}

same : (x : Float) (t : Bool) → ne x x ≡ t → t ≡ is_nan x
unfolding ne is_nan
same x true h = rw (differs_from_itself x (subst T (sym h) tt))
same nan false h = sym h
same (inf s) false h = refl
same (fin s m k) false h = refl

pub ne_self : (x : Float) → ne x x ≡ is_nan x
ne_self x = same x (ne x x) refl

only_nan : (x : Float) → is_nan x ≡ true → nan ≡ x
unfolding is_nan
only_nan nan e = refl
only_nan (inf s) e = absurd (true≢false (sym e))
only_nan (fin s m e) h = absurd (true≢false (sym h))

pub nan_above : (n : ℕ) → 9218868437227405312 < n % 9223372036854775808 → nan ≡ of_bits binary64 n
nan_above n h = only_nan _ (sym (nan_bits_is binary64 n) ∙ nan_bits_above binary64 n ∙ lt-ltb _ _ h)
