-- What is kept of the lines read, and the reading of a byte: the functions that the code's steps equal. What a whole
-- input says is stated in `Format`. Definitions only.
use Rattle.std.specs.Prelude.{ℕ, ◌+◌, Bool, true, false, cond, ◌&&◌, leb, ltb, eqb, ◌==◌, length}
use Rattle.std.specs.Prelude.{Option, Some, None, Result, Ok, Err}
use mathlib.Core.List.{List, [], foldl}
use Rattle.std.proofs.Math.Option as maybe
use Rattle.quote_lines.specs.Bytes.{newline, space}
use Rattle.quote_lines.specs.Format.{Said, entry, target, ill, Board, last, accept, Input, board, bad_line}
use Rattle.quote_lines.specs.Machine.{grown, next}
use Rattle.quote_lines.specs.declared.field.Field.{Field}
use Rattle.quote_lines.specs.declared.field.Field.TheVariants.{Empty, LetterD, LetterT, Dash, Number, Other}
use Rattle.quote_lines.specs.declared.line.Line.{Line}
use Rattle.quote_lines.specs.declared.line.Line.TheVariants.{Nothing, AfterD, AfterDepth, AfterT, Entry, Target, Bad}
use Rattle.quote_lines.specs.declared.board.BadLine.{BadLine}
use Rattle.quote_lines.specs.declared.board.BadInput.{BadInput}
use Rattle.quote_lines.specs.declared.reader.Reader.{Reader}

-- what the fields of a whole line say
abbrev pub say_of : Line → Said
say_of (Entry d (Some r)) = entry d r 1
say_of (Entry d None) = entry d 0 0
say_of (Target t) = target t
say_of Nothing = ill
say_of AfterD = ill
say_of (AfterDepth d) = ill
say_of AfterT = ill
say_of Bad = ill

abbrev pub empty_board : Board
empty_board = record { depths = []; rates = []; marks = []; targets = [] }

-- every line before the next one gave an entry or a target
abbrev pub next_line : Board → BadLine
next_line b = record { 0 = length b.depths + length b.targets + 1 }

-- between two bytes: what the line says so far, what its last field says so far, and what is kept
abbrev pub reader : Line → Field → Board → Option BadLine → Reader
reader l f b o = record { line = l; field = f; board = b; bad = o }

-- between two lines
abbrev pub between : Board → Option BadLine → Reader
between b o = reader Nothing Empty b o

abbrev pub new_reader : Reader
new_reader = between empty_board None

-- a depth: before the first target, within the limit of 64, and not lower than the one before
abbrev pub entry_fits : Board → ℕ → Bool
entry_fits b d = eqb (length b.targets) 0 && (ltb (length b.depths) 64 && leb (last b.depths) d)

-- the board after a line, and the number of a bad one, which changes nothing
abbrev pub board_after : Board → maybe.Option Board → Board
board_after b (maybe.some more) = more
board_after b maybe.none = b

abbrev pub bad_of : Board → maybe.Option Board → Option BadLine
bad_of b (maybe.some more) = None
bad_of b maybe.none = Some (next_line b)

-- a whole line more; after a bad one nothing is kept
abbrev pub keep_line : Board → Option BadLine → Said → Reader
keep_line b None s = between (board_after b (accept b s)) (bad_of b (accept b s))
keep_line b (Some n) s = between b (Some n)

-- the end of a line
unfoldable pub line_ended : Reader → Reader
line_ended r = keep_line r.board r.bad (say_of (next r.line r.field))

-- one byte more
unfoldable pub byte_read : Reader → ℕ → Reader
byte_read r b =
    cond (b == newline) (line_ended r)
    (cond (b == space) (reader (next r.line r.field) Empty r.board r.bad)
    (reader r.line (grown r.field b) r.board r.bad))

unfoldable pub fed : Reader → List ℕ → Reader
fed r bs = foldl byte_read r bs

-- no byte of the line has been read
abbrev pub at_field_start : Field → Bool
at_field_start Empty = true
at_field_start LetterD = false
at_field_start LetterT = false
at_field_start Dash = false
at_field_start (Number n) = false
at_field_start Other = false

abbrev pub at_line_start : Line → Field → Bool
at_line_start Nothing f = at_field_start f
at_line_start AfterD f = false
at_line_start (AfterDepth d) f = false
at_line_start AfterT f = false
at_line_start (Entry d r) f = false
at_line_start (Target t) f = false
at_line_start Bad f = false

-- what the lines read say: the board, or the first bad line and the board before it
abbrev pub kept_of : Board → Option BadLine → Result Board BadInput
kept_of b None = Ok b
kept_of b (Some n) = Err (record { line = n; before = b })

-- the end of the input: a line that has begun ends without its newline
unfoldable pub finished : Reader → Result Board BadInput
finished r =
    let s = cond (at_line_start r.line r.field) r (line_ended r) in
    kept_of s.board s.bad

-- what the board or the bad line says
abbrev pub seen : Result Board BadInput → Input
seen (Ok b) = board b
seen (Err e) = bad_line e.line.0
