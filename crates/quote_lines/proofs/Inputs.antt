-- The machine reads an input as the format does. Assumes nothing.
use Prim.Native.Nat.{ℕ, suc, ◌+◌}
use native.Mathlib.Omega.{arith}
use mathlib.Core.Path.{◌≡◌, refl, ap, ◌∙◌}
use mathlib.Core.Bool.{Bool, true, false, cond}
use mathlib.Core.List.{List, [], ◌∷◌, foldl}
use mathlib.Core.Option.{none, some}
use mathlib.Core.Option as maybe
use lib.Dec.{eqb}
use lib.ListN.{length, length-append}
use Rattle.std.specs.Prelude.{Option, Some, None}
use Rattle.quote_lines.specs.Bytes.{newline, space}
use Rattle.quote_lines.specs.Format.{onto, lines, Said, says, Board, accept, Input, bad_line, or_bad_line, read_lines, parse}
use Rattle.quote_lines.specs.Machine.{grown, next}
use Rattle.quote_lines.specs.Store.{say_of, empty_board, next_line, reader, between, new_reader, board_after, bad_of, keep_line, line_ended, at_line_start, byte_read, fed, kept_of, finished, seen}
use Rattle.quote_lines.specs.declared.field.Field.{Field}
use Rattle.quote_lines.specs.declared.field.Field.TheVariants.{Empty}
use Rattle.quote_lines.specs.declared.line.Line.{Line}
use Rattle.quote_lines.specs.declared.line.Line.TheVariants.{Nothing}
use Rattle.quote_lines.specs.declared.board.BadLine.{BadLine}
use Rattle.quote_lines.specs.declared.reader.Reader.{Reader}
use Rattle.quote_lines.proofs.Lines.{ended, line-says}

-- ---- the bytes of an input, and its lines
-- what whole lines leave, behind what is kept
keep_lines : Board → Option BadLine → List (List ℕ) → Input
keep_lines b o [] = seen (kept_of b o)
keep_lines b o (p ∷ ps) = let r = keep_line b o (say_of (ended Nothing Empty p)) in keep_lines r.board r.bad ps

-- the rest of an input, the first line of which may have begun
rest : Line → Field → Board → Option BadLine → List (List ℕ) → Input
rest l f b o [] = seen (finished (reader l f b o))
rest l f b o (p ∷ ps) = let r = keep_line b o (say_of (ended l f p)) in keep_lines r.board r.bad ps

rest-fresh : (b : Board) (o : Option BadLine) (ps : List (List ℕ)) → rest Nothing Empty b o ps ≡ keep_lines b o ps
unfolding rest keep_lines finished
rest-fresh b o [] = refl
rest-fresh b o (p ∷ ps) = refl

-- a line that a byte or a field was read of has begun
byte_begun : (l : Line) (f : Field) (b : ℕ) → at_line_start l (grown f b) ≡ false
byte_begun l f b = grind arith

space_begun : (l : Line) (f : Field) → at_line_start (next l f) Empty ≡ false
space_begun l f = grind arith

onto-space : (l : Line) (f : Field) (b : Board) (o : Option BadLine) (x : ℕ) (ps : List (List ℕ)) → eqb x space ≡ true
    → rest (next l f) Empty b o ps ≡ rest l f b o (onto x ps)
unfolding rest keep_lines onto finished line_ended
onto-space l f b o x [] e = rw (space_begun l f, e)
onto-space l f b o x (p ∷ ps) e = rw e

onto-other : (l : Line) (f : Field) (b : Board) (o : Option BadLine) (x : ℕ) (ps : List (List ℕ)) → eqb x space ≡ false
    → rest l (grown f x) b o ps ≡ rest l f b o (onto x ps)
unfolding rest keep_lines onto finished line_ended
onto-other l f b o x [] e = rw (byte_begun l f x, e)
onto-other l f b o x (p ∷ ps) e = rw e

-- the line of a reader ends
ended-fresh : (b : Board) (o : Option BadLine) (s : Said) → let r = keep_line b o s in r ≡ between r.board r.bad
ended-fresh b None s = refl
ended-fresh b (Some n) s = refl

fed_by : (l : Line) (f : Field) (b : Board) (o : Option BadLine) (x : ℕ) (bs : List ℕ) (t u : Bool) → eqb x space ≡ u
    → ((l' : Line) (f' : Field) (b' : Board) (o' : Option BadLine) → seen (finished (foldl byte_read (reader l' f' b' o') bs)) ≡ rest l' f' b' o' (lines bs))
    → seen (finished (foldl byte_read (cond t (line_ended (reader l f b o)) (cond u (reader (next l f) Empty b o) (reader l (grown f x) b o))) bs))
    ≡ rest l f b o (cond t ([] ∷ lines bs) (onto x (lines bs)))
unfolding rest line_ended
fed_by l f b o x bs true u e ih =
    let r : Reader = keep_line b o (say_of (next l f)) in
    ap (λ (q : Reader). seen (finished (foldl byte_read q bs))) (ended-fresh b o (say_of (next l f)))
    ∙ ih Nothing Empty r.board r.bad
    ∙ rest-fresh r.board r.bad (lines bs)
fed_by l f b o x bs false true e ih = ih (next l f) Empty b o ∙ onto-space l f b o x (lines bs) e
fed_by l f b o x bs false false e ih = ih l (grown f x) b o ∙ onto-other l f b o x (lines bs) e

fed_rest : (bs : List ℕ) (l : Line) (f : Field) (b : Board) (o : Option BadLine) → seen (finished (foldl byte_read (reader l f b o) bs)) ≡ rest l f b o (lines bs)
unfolding byte_read lines rest
fed_rest [] l f b o = refl
fed_rest (x ∷ bs) l f b o = fed_by l f b o x bs (eqb x newline) (eqb x space) refl (fed_rest bs)

-- ---- the lines, and the board that they make
bad-seen : (b : Board) (n : BadLine) (ps : List (List ℕ)) → keep_lines b (Some n) ps ≡ bad_line n.0
unfolding keep_lines
bad-seen b n [] = refl
bad-seen b n (p ∷ ps) = bad-seen b n ps

-- the number of the next line
line_number : Board → ℕ
line_number b = length b.depths + length b.targets + 1

-- a line that is taken is counted
counted : (b more : Board) (s : Said) → accept b s ≡ some more → line_number more ≡ suc (line_number b)
unfolding accept line_number
counted b more s e = grind (arith, length-append {A = ℕ})

-- the lines that follow
module _ (ps : List (List ℕ)) (ih : (b : Board) → keep_lines b None ps ≡ read_lines (line_number b) b ps) where
  after : (b : Board) (s : Said) (o : maybe.Option Board) → accept b s ≡ o
      → keep_lines (board_after b o) (bad_of b o) ps ≡ or_bad_line (line_number b) (λ c. read_lines (suc (line_number b)) c ps) o
  after b s (some more) e = ih more ∙ ap (λ (n : ℕ). read_lines n more ps) (counted b more s e)
  after b s none e = unfold line_number in bad-seen b (next_line b) ps

lines_read : (ps : List (List ℕ)) (b : Board) → keep_lines b None ps ≡ read_lines (line_number b) b ps
unfolding keep_lines read_lines
lines_read [] b = refl
lines_read (p ∷ ps) b = rw (line-says p) (after ps (lines_read ps) b (says p) (accept b (says p)) refl)

-- a whole input
pub reads : (bs : List ℕ) → seen (finished (fed new_reader bs)) ≡ parse bs
unfolding fed parse line_number
reads bs = fed_rest bs Nothing Empty empty_board None ∙ rest-fresh empty_board None (lines bs) ∙ unfold line_number in lines_read (lines bs) empty_board
