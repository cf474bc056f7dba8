-- A list in the first of so many places, and zeros in the others.
use Rattle.std.specs.Prelude.{◌≡◌, ℕ, ◌-◌, ◌≤◌, List, ◌++◌, length, take, drop, replicate}
use Rattle.std.proofs.Common.{arith, length-take-le, take-append-drop}

module _ {T : Type 0} (zero : T) (most n : ℕ) (places : List T) where
  abbrev pub IsPadded : Type 0
  IsPadded = (n ≤ most) × (length places ≡ most) × (drop n places ≡ replicate (most - n) zero)

  -- the list has n items, and gives the places back
  pub front-long : IsPadded → length (take n places) ≡ n
  front-long h = length-take-le n places (omega (arith, h.0, h.1))

  pub padded_again : IsPadded → take n places ++ replicate (most - length (take n places)) zero ≡ places
  padded_again h = rw (front-long h, ← h.2) (take-append-drop n places)
