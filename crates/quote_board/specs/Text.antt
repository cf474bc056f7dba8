-- What `feequote` writes, after document 01, case M. Definitions only.
use Rattle.std.specs.Prelude.{ℕ, ◌^◌, List, [], ◌∷◌, ◌++◌, ltb}
use Rattle.io.specs.Digits.{last_digits}
use Rattle.slices.specs.Search.{seek}
use Rattle.rbitcoin_mempool.specs.Answer.{Answer, rate, none, refusal}
use Rattle.rbitcoin_mempool.specs.Hold.{held_numbers, held_marks}
use Rattle.rbitcoin_mempool.specs.Target.{fee_at_target_sat_kvb}
use Rattle.quote_lines.specs.Bytes.{newline, space, dash}
use Rattle.quote_lines.specs.Format.{Board, Input, board, bad_line, parse}

-- a number below 10^20 in the fewest decimal digits
unfoldable pub width : ℕ → ℕ
width n = seek (λ k. ltb n (10 ^ k)) 1 19

unfoldable pub decimal : ℕ → List ℕ
decimal n = last_digits 10 (width n) n

-- a rate, or `-` where there is none; no target of an input is refused (`Answered`)
unfoldable pub rate_text : Answer → List ℕ
rate_text (rate r) = decimal r
rate_text none = dash ∷ []
rate_text (refusal k) = dash ∷ []

-- "It holds, then prints target and rate": the line of a target, from the entries as the hold pass leaves them
unfoldable pub quote_line : List ℕ → List ℕ → List ℕ → ℕ → List ℕ
quote_line depths rates marks t =
    decimal t ++ (space ∷ []) ++ rate_text (fee_at_target_sat_kvb depths rates marks t) ++ (newline ∷ [])

unfoldable pub quote_lines : List ℕ → List ℕ → List ℕ → List ℕ → List ℕ
quote_lines depths rates marks [] = []
quote_lines depths rates marks (t ∷ ts) = quote_line depths rates marks t ++ quote_lines depths rates marks ts

-- `target rate`, `bad line `
abbrev pub header : List ℕ
header = 116 ∷ 97 ∷ 114 ∷ 103 ∷ 101 ∷ 116 ∷ 32 ∷ 114 ∷ 97 ∷ 116 ∷ 101 ∷ 10 ∷ []

abbrev pub bad_start : List ℕ
bad_start = 98 ∷ 97 ∷ 100 ∷ 32 ∷ 108 ∷ 105 ∷ 110 ∷ 101 ∷ 32 ∷ []

-- the board as the hold pass leaves it
abbrev pub held : Board → Board
held b = record {
  depths = b.depths;
  rates = held_numbers b.rates b.marks;
  marks = held_marks b.rates b.marks;
  targets = b.targets;
}

abbrev pub quotes : Board → List ℕ
quotes b = header ++ quote_lines b.depths (held_numbers b.rates b.marks) (held_marks b.rates b.marks) b.targets

abbrev pub bad_text : ℕ → List ℕ
bad_text n = bad_start ++ decimal n ++ (newline ∷ [])

unfoldable pub text : Input → List ℕ
text (board b) = quotes b
text (bad_line n) = bad_text n

-- what is written for an input
unfoldable pub feequote : List ℕ → List ℕ
feequote input = text (parse input)
