-- What holds of every board that is read: lists of one length, marks 0 or 1, depths that never descend. Assumes nothing.
use Prim.Native.Nat.{ℕ, suc, ◌+◌, ◌-◌, ◌^◌, ◌≤◌, ◌<◌}
use native.Mathlib.Nat.{le_trans}
use native.Mathlib.Omega.{arith}
use mathlib.Core.Path.{◌≡◌, refl, ap, sym, ◌∙◌}
use mathlib.Core.Bool.{Bool, true, false, cond, ◌&&◌}
use mathlib.Core.List.{List, [], ◌∷◌, ◌++◌}
use mathlib.Core.Option.{Option, none, some}
use lib.Dec.{leb, ltb, eqb, lit≤}
use lib.ListN.{length, get_or, length-append, get_or-append}
use lib.Seq.{get_or-append_seam}
use Rattle.std.proofs.lemmas.Bool.{and_parts}
use borrow.Author.Tests.{leb-true}
use Rattle.quote_lines.specs.Bytes.{dash, letter_d, letter_t}
use Rattle.quote_lines.specs.Format.{numeral, is, Said, entry, target, ill, rate_line, depth_line, target_line, says_fields, fields, says, lines, Board, last, accept, Input, board, bad_line, or_bad_line, read_lines, parse}

pub record Sound (b : Board) : Type 0 where
  pub rates-long : length b.rates ≡ length b.depths
  pub marks-long : length b.marks ≡ length b.depths
  pub marks-small : (i : ℕ) → i < length b.marks → get_or b.marks i 0 ≤ 1
  pub ascends : (i j : ℕ) → i ≤ j → j < length b.depths → get_or b.depths i 0 ≤ get_or b.depths j 0

-- ---- a line gives the mark 0 or 1
abbrev Marked : Said → Type 0
Marked (entry d r m) = m ≤ 1
Marked (target t) = Unit {0}
Marked ill = Unit {0}

cond-marked : (t : Bool) (s u : Said) → Marked s → Marked u → Marked (cond t s u)
cond-marked true s u h i = h
cond-marked false s u h i = i

rate-marked : (d : ℕ) (o : Option ℕ) → Marked (rate_line d o)
unfolding rate_line
rate-marked d (some r) = lit≤ tt
rate-marked d none = tt

depth-marked : (o : Option ℕ) (q : List ℕ) → Marked (depth_line o q)
unfolding depth_line
depth-marked (some d) q = cond-marked (is dash q) (entry d 0 0) (rate_line d (numeral (2 ^ 64) q)) (lit≤ tt) (rate-marked d (numeral (2 ^ 64) q))
depth-marked none q = tt

target-marked : (o : Option ℕ) → Marked (target_line o)
unfolding target_line
target-marked (some t) = tt
target-marked none = tt

fields-marked : (fs : List (List ℕ)) → Marked (says_fields fs)
unfolding says_fields
fields-marked [] = tt
fields-marked (k ∷ []) = tt
fields-marked (k ∷ t ∷ []) = cond-marked (is letter_t k) (target_line (numeral (2 ^ 32) t)) ill (target-marked (numeral (2 ^ 32) t)) tt
fields-marked (k ∷ d ∷ r ∷ []) = cond-marked (is letter_d k) (depth_line (numeral (2 ^ 32) d) r) ill (depth-marked (numeral (2 ^ 32) d) r) tt
fields-marked (k ∷ a ∷ b ∷ c ∷ fs) = tt

line_marked : (l : List ℕ) → Marked (says l)
unfolding says
line_marked l = fields-marked (fields l)

-- ---- one more at the end of a list
module _ (xs : List ℕ) (x : ℕ) where
  one_longer : length (xs ++ x ∷ []) ≡ length xs + 1
  one_longer = length-append xs (x ∷ [])

  at_end : (i : ℕ) → i ≡ length xs → get_or (xs ++ x ∷ []) i 0 ≡ x
  at_end i e = ap (λ (k : ℕ). get_or (xs ++ x ∷ []) k 0) e ∙ get_or-append_seam xs x [] 0

  before_end : (i : ℕ) → i < length xs → get_or (xs ++ x ∷ []) i 0 ≡ get_or xs i 0
  before_end i h = get_or-append xs (x ∷ []) 0 i h

  small_more : x ≤ 1 → ((i : ℕ) → i < length xs → get_or xs i 0 ≤ 1) → (i : ℕ) → i < length (xs ++ x ∷ []) → get_or (xs ++ x ∷ []) i 0 ≤ 1
  small_more h all i l = grind (arith, at_end i, before_end i, one_longer, all i)

  last-is_most : ((i j : ℕ) → i ≤ j → j < length xs → get_or xs i 0 ≤ get_or xs j 0) → last xs ≤ x → (i : ℕ) → i < length xs → get_or xs i 0 ≤ x
  last-is_most up h i l = le_trans (up i (length xs - 1) (omega arith) (omega arith)) h

  ascends_more : ((i j : ℕ) → i ≤ j → j < length xs → get_or xs i 0 ≤ get_or xs j 0) → last xs ≤ x
      → (i j : ℕ) → i ≤ j → j < length (xs ++ x ∷ []) → get_or (xs ++ x ∷ []) i 0 ≤ get_or (xs ++ x ∷ []) j 0
  ascends_more up h i j l k = grind (arith, at_end i, at_end j, before_end i, before_end j, one_longer, up i j, last-is_most up h i)

-- ---- each line keeps a board sound
abbrev SoundIf : Option Board → Type 0
SoundIf (some b) = Sound b
SoundIf none = Unit {0}

entry-sound : (b : Board) (d r m : ℕ) (t : Bool) → Sound b → m ≤ 1
    → (eqb (length b.targets) 0 && (ltb (length b.depths) 64 && leb (last b.depths) d)) ≡ t
    → SoundIf (cond t (some (record { depths = b.depths ++ d ∷ []; rates = b.rates ++ r ∷ []; marks = b.marks ++ m ∷ []; targets = b.targets })) none)
entry-sound b d r m true s h e =
    record {
      rates-long = one_longer b.rates r ∙ ap (λ (k : ℕ). k + 1) s.rates-long ∙ sym (one_longer b.depths d);
      marks-long = one_longer b.marks m ∙ ap (λ (k : ℕ). k + 1) s.marks-long ∙ sym (one_longer b.depths d);
      marks-small = small_more b.marks m h s.marks-small;
      ascends = ascends_more b.depths d s.ascends (leb-true _ _ (and_parts (ltb (length b.depths) 64) _ (and_parts (eqb (length b.targets) 0) _ e).1).1);
    }
entry-sound b d r m false s h e = tt

target_sound : (b : Board) (n : ℕ) (t : Bool) → Sound b → SoundIf (cond t (some (record { depths = b.depths; rates = b.rates; marks = b.marks; targets = b.targets ++ n ∷ [] })) none)
target_sound b n true s = record { rates-long = s.rates-long; marks-long = s.marks-long; marks-small = s.marks-small; ascends = s.ascends }
target_sound b n false s = tt

accept-sound : (b : Board) (s : Said) → Sound b → Marked s → SoundIf (accept b s)
unfolding accept
accept-sound b (entry d r m) g h = entry-sound b d r m (eqb (length b.targets) 0 && (ltb (length b.depths) 64 && leb (last b.depths) d)) g h refl
accept-sound b (target t) g h = target_sound b t (ltb (length b.targets) 64) g
accept-sound b ill g h = tt

abbrev pub SoundInput : Input → Type 0
SoundInput (board b) = Sound b
SoundInput (bad_line n) = Unit {0}

on-sound : (n : ℕ) (more : Board → Input) (o : Option Board) → ((b : Board) → Sound b → SoundInput (more b)) → SoundIf o → SoundInput (or_bad_line n more o)
on-sound n more (some b) f s = f b s
on-sound n more none f s = tt

lines-sound : (ls : List (List ℕ)) (n : ℕ) (b : Board) → Sound b → SoundInput (read_lines n b ls)
unfolding read_lines
lines-sound [] n b s = s
lines-sound (l ∷ ls) n b s = on-sound n (λ b'. read_lines (suc n) b' ls) (accept b (says l)) (lines-sound ls (suc n)) (accept-sound b (says l) s (line_marked l))

pub parse-sound : (input : List ℕ) → SoundInput (parse input)
unfolding parse
parse-sound input =
    lines-sound (lines input) 1 (record { depths = []; rates = []; marks = []; targets = [] })
    (record { rates-long = refl; marks-long = refl; marks-small = λ i l. absurd (omega arith); ascends = λ i j l m. absurd (omega arith) })
