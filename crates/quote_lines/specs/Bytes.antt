-- The bytes that mean something in a line. Definitions only.
use Rattle.std.specs.Prelude.{ℕ, ◌+◌, ◌-◌, ◌*◌, Bool, ◌&&◌, leb}

abbrev pub newline : ℕ
newline = 10

abbrev pub space : ℕ
space = 32

abbrev pub dash : ℕ
dash = 45

abbrev pub letter_d : ℕ
letter_d = 68

abbrev pub letter_t : ℕ
letter_t = 84

-- `0` to `9`
abbrev pub is_digit : ℕ → Bool
is_digit b = leb 48 b && leb b 57

-- a decimal digit behind the number n
abbrev pub shifted : ℕ → ℕ → ℕ
shifted n b = n * 10 + (b - 48)
