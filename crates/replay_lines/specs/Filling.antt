-- What a read into a buffer took from a reader, where the reader's type says which bytes it has left. Definitions only.
use Rattle.std.specs.Prelude.{ℕ, ◌<◌, ◌≤◌, List, Option, length, take}
use Rattle.std.specs.Io.KnownBytes.{Consumes, IsAtEnd}

-- the first n bytes of the buffer stood in front of the reader, and the rest is left: nothing where the buffer has room
pub record Filled (had left : Option (List ℕ)) (n : ℕ) (buf : List ℕ) : Type 0 where
  pub in_bounds : n ≤ length buf
  pub taken : Consumes had left (take n buf)
  pub at_end : n < length buf → IsAtEnd left
