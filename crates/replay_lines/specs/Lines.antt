-- Lines, their names and their words. Definitions only.
use Rattle.std.specs.Prelude.{ℕ, zero, suc, ◌+◌, cond, List, [], ◌∷◌, length, drop, ◌==◌, nat_lt}
use Rattle.replay_lines.specs.Hex.{hex_of}

-- the bytes before the first b
unfoldable pub up_to : ℕ → List ℕ → List ℕ
up_to b [] = []
up_to b (x ∷ s) = cond (x == b) [] (x ∷ up_to b s)

-- the place behind the newline that ends the line that starts at a place: the length and 1 where the last line has
-- none, and the length from the end on
unfoldable pub after_line : List ℕ → ℕ → ℕ
after_line s at = cond (nat_lt at (length s)) (at + length (up_to 10 (drop at s)) + 1) (length s)

-- n words from a place on, each after one byte, which is not looked at
unfoldable pub words_of : List ℕ → ℕ → ℕ → List ℕ
words_of s at zero = []
words_of s at (suc n) = hex_of s (at + 1) 16 ∷ words_of s (at + 17) n

-- a byte before the first of some lines
abbrev pub before_first : ℕ → List (List ℕ) → List (List ℕ)
before_first x [] = (x ∷ []) ∷ []
before_first x (l ∷ ls) = (x ∷ l) ∷ ls

-- a text's lines, each without its newline, which a last one need not have
unfoldable pub lines_of : List ℕ → List (List ℕ)
lines_of [] = []
lines_of (x ∷ s) = cond (x == 10) ([] ∷ lines_of s) (before_first x (lines_of s))
