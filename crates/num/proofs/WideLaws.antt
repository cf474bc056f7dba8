-- Laws for callers of `wide`: when a value is one word, a sum that fits, and a quotient by a number above 0. Assumes nothing.
use Rattle.std.proofs.Common.{◌≡◌, ℕ, zero, suc, ◌+◌, ◌/◌, ◌%◌, ◌^◌, ◌<◌, ◌≤◌, ap, ◌∙◌, lt_of_lt_of_le, not-suc-le-zero, mod-eq_of_lt, arith, lit≤}
use Rattle.num.specs.declared.wide.Wide.{Wide}
use Rattle.num.specs.Wide.{value, wrapping_sum, divided}

pub one_word : (w : Wide) → value w < 2 ^ 64 → (w.hi ≡ 0) × (w.lo ≡ value w)
unfolding value
one_word w h = omega arith

-- the upper word tells whether the value is one word
pub no_upper_word : (w : Wide) → w.hi ≡ 0 → w.lo ≡ value w
unfolding value
no_upper_word w h = omega arith

pub upper_word : (w : Wide) → (w.hi ≡ 0 → ⊥) → 2 ^ 64 ≤ value w
unfolding value
upper_word w h = omega arith

pub fitting-sum : (a b : ℕ) → a + b < 2 ^ 128 → wrapping_sum a b ≡ a + b
unfolding wrapping_sum
fitting-sum a b h = mod-eq_of_lt h

-- 2 ^ 126 is the largest power of 2 that omega reads
pub small-sum : (a b : ℕ) → a + b < 2 ^ 126 → wrapping_sum a b ≡ a + b
small-sum a b h = fitting-sum a b (lt_of_lt_of_le h (lit≤ tt))

pub divided-by : {q r : ℕ} (n d : ℕ) → 0 < d → (q, r) ≡ divided n d → (q ≡ n / d) × (r ≡ n % d)
unfolding divided
divided-by n zero h e = absurd (not-suc-le-zero h)
divided-by n (suc d) h e = (ap (λ (p : ℕ × ℕ). p.0) e, ap (λ (p : ℕ × ℕ). p.1) e)

pub quotient_word : {r : ℕ} (w : Wide) (n d : ℕ) → 0 < d → n / d < 2 ^ 64 → (value w, r) ≡ divided n d → (w.hi ≡ 0) × (w.lo ≡ n / d)
quotient_word w n d h k e =
    let q = (divided-by n d h e).0 in
    let o = one_word w (omega (arith, q)) in
    (o.0, o.1 ∙ q)
