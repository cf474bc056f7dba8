-- The bytes of an input, one more and in two parts. Assumes nothing.
use Prim.Native.Nat.{ℕ, ◌+◌, ◌<◌}
use mathlib.Core.Path.{◌≡◌, refl}
use mathlib.Core.List.{List, [], ◌∷◌, ◌++◌, foldl-append}
use native.Mathlib.Numerals.{add-one}
use lib.ListN.{length, get_or, take}
use lib.Seq.{take-suc}
use Rattle.quote_lines.specs.Store.{byte_read, fed}
use Rattle.quote_lines.specs.declared.reader.Reader.{Reader}

module _ (r : Reader) where
  pub fed_none : fed r [] ≡ r
  unfolding fed
  fed_none = refl

  pub fed_append : (xs ys : List ℕ) → fed r (xs ++ ys) ≡ fed (fed r xs) ys
  unfolding fed
  fed_append xs ys = foldl-append byte_read r xs ys

  pub fed_more : (xs : List ℕ) (i : ℕ) → i < length xs → fed r (take (i + 1) xs) ≡ byte_read (fed r (take i xs)) (get_or xs i 0)
  unfolding fed
  fed_more xs i h = rw (add-one i, take-suc xs i 0 h) (foldl-append byte_read r (take i xs) (get_or xs i 0 ∷ []))
