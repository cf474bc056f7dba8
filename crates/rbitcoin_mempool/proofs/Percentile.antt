-- `percentile_sat` by the list's length, as the code tests it. Assumes nothing.
use Rattle.std.proofs.Common.{◌≡◌, ℕ, ◌-◌, ◌/◌, min, List, [], ◌∷◌, length, get_or, refl, ap, arith}
use Rattle.num.specs.Word.{saturating_mul}
use Rattle.slices.specs.Sorted.{sorted}
use Rattle.rbitcoin_mempool.specs.Answer.{rate, none}
use Rattle.rbitcoin_mempool.specs.Percentile.{percentile_sat}

pub percentile-none : (xs : List ℕ) (pct : ℕ) → length xs ≡ 0 → none ≡ percentile_sat xs pct
unfolding percentile_sat
percentile-none [] pct e = refl
percentile-none (x ∷ xs) pct e = absurd (omega arith)

pub percentile-some : (xs : List ℕ) (pct : ℕ) → (length xs ≡ 0 → ⊥)
    → rate (get_or (sorted xs) (saturating_mul (length xs - 1) (min pct 100) / 100) 0) ≡ percentile_sat xs pct
unfolding percentile_sat
percentile-some [] pct n = absurd (n refl)
percentile-some (x ∷ xs) pct n =
    let e : length (x ∷ xs) - 1 ≡ length xs = omega arith in
    ap (λ m. rate (get_or (sorted (x ∷ xs)) (saturating_mul m (min pct 100) / 100) 0)) e
