-- `every` by what it says at a place. Assumes nothing.
use Rattle.std.proofs.Common.{◌≡◌, ℕ, zero, suc, ◌<◌, Bool, true, refl, arith}
use Rattle.slices.specs.Every.{every}

pub every_true : (p : ℕ → Bool) (n : ℕ) → ((k : ℕ) → k < n → p k ≡ true) → every p n ≡ true
unfolding every
every_true p zero h = refl
every_true p (suc n) h = grind (arith, every_true p n (λ k l. h k (omega arith)), h n)

pub every-at : (p : ℕ → Bool) (n : ℕ) → every p n ≡ true → (k : ℕ) → k < n → p k ≡ true
unfolding every
every-at p zero e k l = grind arith
every-at p (suc n) e k l = grind (arith, every-at p n)
