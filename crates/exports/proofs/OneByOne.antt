-- The elements of a list, one by one. Assumes nothing.
use mathlib.Core.Path.{◌≡◌, sym, ap}
use mathlib.Core.List.{List, [], ◌∷◌}
use Prim.Native.Nat.{ℕ, suc, ◌+◌, ◌≤◌}
use native.Mathlib.Omega.{arith}
use lib.ListN.{length, get_or, drop, drop_of_length-le}
use lib.Seq.{drop-cons}

-- the element at a place before all that follow
pub next : {A : Type 0} (t : List A) (i n : ℕ) (d : A) (l : List A) → i + suc n ≡ length t → l ≡ drop (suc i) t → get_or t i d ∷ l ≡ drop i t
next t i n d l e f = rw (drop-cons t i d (omega arith)) (ap (λ rest. get_or t i d ∷ rest) f)

-- nothing follows the last
pub end : {A : Type 0} (t : List A) (i : ℕ) → i ≡ length t → [] ≡ drop i t
end t i e = let h : length t ≤ i = omega arith in sym (drop_of_length-le t h)
