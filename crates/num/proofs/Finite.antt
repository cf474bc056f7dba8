-- A fraction of 0 rounds to the zero of its sign. A float less itself equals 0 exactly where it is finite, and std's word for that has the same cases. Assumes nothing.
use Rattle.std.proofs.Common.{◌≡◌, ℕ, ◌*◌, ◌<◌, Bool, true, false, pos, refl, ◌∙◌, mul-pos, arith, lit<, le-ltb}
use Rattle.std.specs.Float.{float_is_finite}
use native.Mathlib.Nat.{sub_self}
use lib.Ieee.{Float, nan, inf, fin, binary64, up, down, sub, eq, round}
use lib.Ieee.Fits.{down_pos}
use lib.Ieee.Scale.{round_same}
use Rattle.num.specs.Float.{is_finite}
use Rattle.num.proofs.Value.{bits_0}

at_0 : (s : Bool) → round binary64 s 0 1 ≡ fin s 0 (pos 0)
unfolding round
at_0 s = refl

pub round-zero : (s : Bool) (c : ℕ) → 0 < c → round binary64 s 0 c ≡ fin s 0 (pos 0)
round-zero s c C = round_same binary64 s 0 c 0 1 C (lit< tt) (omega arith) ∙ at_0 s

pub less_itself : (x : Float) → eq (sub binary64 x x) (fin false 0 (pos 0)) ≡ is_finite x
unfolding eq sub
less_itself nan = refl
less_itself (inf true) = refl
less_itself (inf false) = refl
less_itself (fin true m e) =
    let a = m * up e * down e in
    rw (le-ltb a a (omega arith), sub_self a, round-zero false (down e * down e) (mul-pos (down_pos e) (down_pos e)))
less_itself (fin false m e) =
    let a = m * up e * down e in
    rw (le-ltb a a (omega arith), sub_self a, round-zero false (down e * down e) (mul-pos (down_pos e) (down_pos e)))

pub std_finite : (x : Float) → float_is_finite x ≡ is_finite x
unfolding float_is_finite
std_finite nan = refl
std_finite (inf s) = refl
std_finite (fin s m e) = refl

-- for the proof of `is_finite`
pub ruleset finite_laws = (std_finite, less_itself, bits_0)
