-- The line format of `feequote`, after document 01, case M. Definitions only.
use Rattle.std.specs.Prelude.{ℕ, suc, ◌-◌, ◌^◌, Bool, true, false, cond, ◌&&◌, leb, ltb, eqb, length, get_or}
use mathlib.Core.List.{List, [], ◌∷◌, ◌++◌, foldl}
use Rattle.std.proofs.Math.Option.{Option, none, some}
use Rattle.quote_lines.specs.Bytes.{newline, space, dash, letter_d, letter_t, is_digit, shifted}

-- a byte in front of the first part
unfoldable pub onto : ℕ → List (List ℕ) → List (List ℕ)
onto b [] = (b ∷ []) ∷ []
onto b (p ∷ ps) = (b ∷ p) ∷ ps

-- "a newline ends a line and the last may lack it"
unfoldable pub lines : List ℕ → List (List ℕ)
lines [] = []
lines (b ∷ bs) = cond (eqb b newline) ([] ∷ lines bs) (onto b (lines bs))

-- "Fields stand one space apart"
unfoldable pub fields : List ℕ → List (List ℕ)
fields [] = [] ∷ []
fields (b ∷ bs) = cond (eqb b space) ([] ∷ fields bs) (onto b (fields bs))

-- "decimal", "digits only", "leading zeros allowed"
unfoldable pub all_digits : List ℕ → Bool
all_digits [] = true
all_digits (b ∷ bs) = is_digit b && all_digits bs

unfoldable pub is_numeral : List ℕ → Bool
is_numeral [] = false
is_numeral (b ∷ bs) = all_digits (b ∷ bs)

abbrev pub value : List ℕ → ℕ
value bs = foldl shifted 0 bs

-- the value of a field of digits, where it is below the bound
unfoldable pub numeral : ℕ → List ℕ → Option ℕ
numeral bound bs = cond (is_numeral bs && ltb (value bs) bound) (some (value bs)) none

-- a field that is one byte
unfoldable pub is : ℕ → List ℕ → Bool
is b [] = false
is b (x ∷ []) = eqb x b
is b (x ∷ y ∷ xs) = false

-- what a line says: a depth with the number and the mark of its rate, 1 there, 0 missing; a target; nothing well-formed
pub data Said : Type 0 where
  entry : ℕ → ℕ → ℕ → Said
  target : ℕ → Said
  ill : Said

unfoldable pub rate_line : ℕ → Option ℕ → Said
rate_line d (some r) = entry d r 1
rate_line d none = ill

-- "`D depth rate` (or `-`)", "depth and target within u32 and rate within u64"
unfoldable pub depth_line : Option ℕ → List ℕ → Said
depth_line (some d) rate = cond (is dash rate) (entry d 0 0) (rate_line d (numeral (2 ^ 64) rate))
depth_line none rate = ill

unfoldable pub target_line : Option ℕ → Said
target_line (some t) = target t
target_line none = ill

-- "Any other line, an empty one too, is ill-formed"
unfoldable pub says_fields : List (List ℕ) → Said
says_fields [] = ill
says_fields (kind ∷ []) = ill
says_fields (kind ∷ t ∷ []) = cond (is letter_t kind) (target_line (numeral (2 ^ 32) t)) ill
says_fields (kind ∷ d ∷ rate ∷ []) = cond (is letter_d kind) (depth_line (numeral (2 ^ 32) d) rate) ill
says_fields (kind ∷ a ∷ b ∷ c ∷ fs) = ill

unfoldable pub says : List ℕ → Said
says line = says_fields (fields line)

-- the entries in order, and the targets
pub record Board : Type 0 where
  pub depths : List ℕ
  pub rates : List ℕ
  pub marks : List ℕ
  pub targets : List ℕ

abbrev pub last : List ℕ → ℕ
last ds = get_or ds (length ds - 1) 0

-- "at most 64, then `T target`, at most 64", "a D after a T or a lower depth"
unfoldable pub accept : Board → Said → Option Board
accept b (entry d r m) =
    cond (eqb (length b.targets) 0 && (ltb (length b.depths) 64 && leb (last b.depths) d))
    (some (record {
      depths = b.depths ++ d ∷ [];
      rates = b.rates ++ r ∷ [];
      marks = b.marks ++ m ∷ [];
      targets = b.targets;
    }))
    none
accept b (target t) =
    cond (ltb (length b.targets) 64)
    (some (record { depths = b.depths; rates = b.rates; marks = b.marks; targets = b.targets ++ t ∷ [] }))
    none
accept b ill = none

-- "`bad line n`, n from 1, for the first such line"
pub data Input : Type 0 where
  board : Board → Input
  bad_line : ℕ → Input

abbrev pub or_bad_line : ℕ → (Board → Input) → Option Board → Input
or_bad_line n more (some b) = more b
or_bad_line n more none = bad_line n

unfoldable pub read_lines : ℕ → Board → List (List ℕ) → Input
read_lines n b [] = board b
read_lines n b (l ∷ ls) = or_bad_line n (λ b'. read_lines (suc n) b' ls) (accept b (says l))

unfoldable pub parse : List ℕ → Input
parse input = read_lines 1 (record { depths = []; rates = []; marks = []; targets = [] }) (lines input)
