-- What the program has read and what it will write. No contract can say which bytes standard input gives, so each claim
-- is about some list of bytes; where a reader's type says which bytes it has left, and a writer's which it holds, the
-- claims are about those. Definitions only.
use Rattle.std.specs.Prelude.{ℕ, ◌≡◌, List, Option, IfSome}
use Rattle.std.specs.Io.KnownBytes.{Appends, Consumes}
use Rattle.quote_lines.specs.Store.{fed}
use Rattle.quote_lines.specs.declared.reader.Reader.{Reader}
use Rattle.quote_board.specs.Text.{feequote}

-- some bytes bring the one state to the other; of a reader that had known bytes left, these bytes stood in front, and
-- the rest is left
pub record Fed (had left : Option (List ℕ)) (r s : Reader) : Type 0 where
  pub bytes : List ℕ
  pub reached : s ≡ fed r bytes
  pub taken : Consumes had left bytes

-- the text of some input, of all that was left to read
pub record TextOf (had : Option (List ℕ)) (t : List ℕ) : Type 0 where
  pub input : List ℕ
  pub all : IfSome had (λ xs. input ≡ xs)
  pub is_text : t ≡ feequote input

-- the text of some input
pub record TextOfSome (t : List ℕ) : Type 0 where
  pub input : List ℕ
  pub is_text : t ≡ feequote input

-- the text of some input, of all that was left to read, came behind what was written before
pub record Quoted (had before after : Option (List ℕ)) : Type 0 where
  pub input : List ℕ
  pub all : IfSome had (λ xs. input ≡ xs)
  pub appended : Appends before after (feequote input)
