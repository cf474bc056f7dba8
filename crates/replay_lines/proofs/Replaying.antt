-- Words put over a list as long as they are. Assumes nothing.
use Rattle.std.proofs.Common.{◌≡◌, List, [], ◌∷◌, length, ap, refl, arith}
use Rattle.replay_lines.specs.Lists.{over}

pub over-whole : {A : Type 0} (xs ys : List A) → length xs ≡ length ys → over xs ys ≡ xs
unfolding over
over-whole [] [] e = refl
over-whole [] (y ∷ ys) e = let none : ⊥ = omega (arith, e) in absurd none
over-whole (x ∷ xs) [] e = let none : ⊥ = omega (arith, e) in absurd none
over-whole {A} (x ∷ xs) (y ∷ ys) e = ap (λ (l : List A). x ∷ l) (over-whole xs ys (omega (arith, e)))
