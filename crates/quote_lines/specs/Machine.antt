-- Fields and lines read a byte at a time: the functions that the code's steps equal. What whole lines say is stated in
-- `Format`. Definitions only.
use Rattle.std.specs.Prelude.{ℕ, ◌^◌, cond, ltb, eqb, Option, Some, None}
use Rattle.quote_lines.specs.Bytes.{dash, letter_d, letter_t, is_digit, shifted}
use Rattle.quote_lines.specs.declared.field.Field.{Field}
use Rattle.quote_lines.specs.declared.field.Field.TheVariants.{Empty, LetterD, LetterT, Dash, Number, Other}
use Rattle.quote_lines.specs.declared.line.Line.{Line}
use Rattle.quote_lines.specs.declared.line.Line.TheVariants.{Nothing, AfterD, AfterDepth, AfterT, Entry, Target, Bad}

-- one byte more of a field: a number stays below 2^64
abbrev pub with_digit : ℕ → ℕ → Option ℕ
with_digit n b = cond (is_digit b) (cond (ltb (shifted n b) (2 ^ 64)) (Some (shifted n b)) None) None

abbrev pub number : ℕ → Field
number n = cond (ltb n (2 ^ 64)) (Number n) Other

abbrev pub digits_on : ℕ → ℕ → Field
digits_on n b = cond (is_digit b) (number (shifted n b)) Other

abbrev pub first_byte : ℕ → Field
first_byte b = cond (eqb b letter_d) LetterD (cond (eqb b letter_t) LetterT (cond (eqb b dash) Dash (digits_on 0 b)))

abbrev pub grown : Field → ℕ → Field
grown Empty b = first_byte b
grown (Number n) b = digits_on n b
grown LetterD b = Other
grown LetterT b = Other
grown Dash b = Other
grown Other b = Other

-- one field more of a line
abbrev pub kind_of : Field → Line
kind_of LetterD = AfterD
kind_of LetterT = AfterT
kind_of Empty = Bad
kind_of Dash = Bad
kind_of (Number n) = Bad
kind_of Other = Bad

-- a depth or a target
abbrev pub within : (ℕ → Line) → Field → Line
within g (Number n) = cond (ltb n (2 ^ 32)) (g n) Bad
within g Empty = Bad
within g LetterD = Bad
within g LetterT = Bad
within g Dash = Bad
within g Other = Bad

abbrev pub rate_of : ℕ → Field → Line
rate_of d (Number n) = Entry d (Some n)
rate_of d Dash = Entry d None
rate_of d Empty = Bad
rate_of d LetterD = Bad
rate_of d LetterT = Bad
rate_of d Other = Bad

abbrev pub next : Line → Field → Line
next Nothing f = kind_of f
next AfterD f = within AfterDepth f
next (AfterDepth d) f = rate_of d f
next AfterT f = within Target f
next (Entry d r) f = Bad
next (Target t) f = Bad
next Bad f = Bad
