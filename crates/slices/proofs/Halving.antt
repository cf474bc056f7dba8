-- A turn of a search by halving with no branch: of n places from a on the middle one is tested, and the test counts as 0 or 1. Assumes nothing.
use Rattle.std.proofs.Common.{◌≡◌, ℕ, ◌+◌, ◌-◌, ◌*◌, ◌/◌, ◌<◌, ◌≤◌, Bool, true, false, refl, subst, arith}
use mir.Val.{bool_byte}

pub at_most_one : (b : Bool) → bool_byte b ≤ 1
at_most_one true = omega arith
at_most_one false = omega arith

pub at_most : (b : Bool) (m : ℕ) → bool_byte b * m ≤ m
at_most true m = omega arith
at_most false m = omega arith

-- where the test holds the places behind the middle are left, else those before it
pub halved : (P : ℕ → ℕ → Type 0) (a n : ℕ) (b : Bool) → 0 < n → (b ≡ true → P (a + n / 2 + 1) (a + n)) → (b ≡ false → P a (a + n / 2)) → P (a + bool_byte b * (n / 2 + 1)) (a + bool_byte b * (n / 2 + 1) + (n - bool_byte b) / 2)
halved P a n true l up down =
    let low : a + n / 2 + 1 ≡ a + 1 * (n / 2 + 1) = omega arith in
    let high : a + n ≡ a + 1 * (n / 2 + 1) + (n - 1) / 2 = omega arith in
    subst (λ (y : ℕ). P (a + 1 * (n / 2 + 1)) y) high (subst (λ (x : ℕ). P x (a + n)) low (up refl))
halved P a n false l up down =
    let low : a ≡ a + 0 * (n / 2 + 1) = omega arith in
    let high : a + n / 2 ≡ a + 0 * (n / 2 + 1) + (n - 0) / 2 = omega arith in
    subst (λ (y : ℕ). P (a + 0 * (n / 2 + 1)) y) high (subst (λ (x : ℕ). P x (a + n / 2)) low (down refl))
