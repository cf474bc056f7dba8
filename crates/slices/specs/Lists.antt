-- Lists by their places. Definitions only.
use Rattle.std.specs.Prelude.{ℕ, zero, suc, ◌+◌, Bool, cond, ◌&&◌, List, [], ◌∷◌, ◌++◌, length, take, drop, nat_le}

-- f at the n places from i on
unfoldable pub tabulate : {A : Type 0} → (ℕ → A) → ℕ → ℕ → List A
tabulate f i zero = []
tabulate f i (suc n) = f i ∷ tabulate f (suc i) n

-- xs, with the n elements from place `from` on also at the places from `to` on
unfoldable pub moved : {A : Type 0} → List A → ℕ → ℕ → ℕ → List A
moved xs to from n = take to xs ++ take n (drop from xs) ++ drop (to + n) xs

-- whether n places from `to` on and n places from `from` on lie within `len`
unfoldable pub both_fit : ℕ → ℕ → ℕ → ℕ → Bool
both_fit len to from n = nat_le (to + n) len && nat_le (from + n) len

-- `xs.copy_within(from..from + n, to)`; where Rust would panic, nothing is moved
unfoldable pub copy_within : {A : Type 0} → List A → ℕ → ℕ → ℕ → List A
copy_within xs to from n = cond (both_fit (length xs) to from n) (moved xs to from n) xs

-- `xs[..n].copy_from_slice(ys)` with n the length of ys; where Rust would panic, nothing is copied
unfoldable pub copy_front : {A : Type 0} → List A → List A → List A
copy_front xs ys = cond (nat_le (length ys) (length xs)) (ys ++ drop (length ys) xs) xs
