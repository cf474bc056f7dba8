-- The least element, by std's `min`. Assumes nothing.
use Rattle.std.proofs.Common.{◌≡◌, ℕ, ◌-◌, ◌^◌, ◌≤◌, min, List, [], ◌∷◌, get_or, ◌∙◌, arith, Fits, w64}
use Rattle.std.specs.declared.option.Option.{Option}
use Rattle.std.specs.Option.{unwrap_or}
use Rattle.std.specs.List.{fold, reduce}
use Rattle.slices.specs.Least.{least_of}

-- from m on
pub fold-least : (xs : List ℕ) (m : ℕ) → m ≤ 2 ^ 64 - 1 → fold min m xs ≡ min m (least_of xs)
unfolding least_of
fold-least [] m h = omega arith
fold-least (x ∷ xs) m h = fold-least xs (min m x) (omega arith) ∙ omega arith

pub least_from_min : (xs : List ℕ) → ((i : ℕ) → Fits w64 (get_or xs i 0)) → (r : Option ℕ) → r ≡ reduce min xs → unwrap_or r 18446744073709551615 ≡ least_of xs
unfolding least_of
least_from_min [] h r e = rw e
least_from_min (x ∷ xs) h r e = rw e (fold-least xs x (omega (arith, h 0)))
