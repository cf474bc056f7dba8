-- A hexadecimal digit is below 16, and digits are read alike from a place and from what starts there. Assumes nothing.
use Rattle.std.proofs.Common.{◌≡◌, ℕ, ◌-◌, ◌<◌, Bool, true, false, cond, ltb, List, drop, zero, suc, zero-add, refl, arith, lit<, ltb-true}
use Rattle.std.proofs.lemmas.List.{get_or-drop}
use Rattle.replay_lines.specs.Hex.{hex_digit, hex_of}

by : (P : ℕ → Type 0) (t : Bool) (a b : ℕ) → (t ≡ true → P a) → (t ≡ false → P b) → P (cond t a b)
by P true a b h k = h refl
by P false a b h k = k refl

pub hex_small : (b : ℕ) → hex_digit b < 16
unfolding hex_digit
hex_small b =
    by (λ (n : ℕ). n < 16) (ltb b 48) 0 _ (λ h. lit< tt)
    (λ h0. by (λ (n : ℕ). n < 16) (ltb b 58) (b - 48) _ (λ h. omega (arith, ltb-true b 58 h))
    (λ h1. by (λ (n : ℕ). n < 16) (ltb b 97) 0 _ (λ h. lit< tt)
    (λ h2. by (λ (n : ℕ). n < 16) (ltb b 103) (b - 87) 0 (λ h. omega (arith, ltb-true b 103 h)) (λ h. lit< tt))))

-- what stands from a place on spells there what it does from its own start
pub hex-drop : (s : List ℕ) (at n : ℕ) → hex_of (drop at s) 0 n ≡ hex_of s at n
unfolding hex_of
hex-drop s at zero = refl
hex-drop s at (suc n) = rw (hex-drop s at n, zero-add, get_or-drop at s n 0)
