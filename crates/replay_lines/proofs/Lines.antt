-- Where a byte stands first, and the end of a list. Assumes nothing.
use Rattle.std.proofs.Common.{◌≡◌, ℕ, zero, suc, ◌<◌, ◌≤◌, Bool, true, false, cond, eqb, List, [], ◌∷◌, length, take, drop, refl, ap, ◌∙◌, le_of_suc-le-suc, not-suc-le-zero, arith, length-take, eq-eqb, ne_eqb, lt-ltb, add-one, length-drop, ◌+◌, Option, MatchOption}
use lib.Seq.{drop-drop, drop-nil}
use Rattle.std.specs.List.{AllWithin, HoldsAt}
use Rattle.std.specs.Option.{unwrap_or}
use Rattle.std.proofs.lemmas.Iterator.{index_from_first}
use Rattle.replay_lines.specs.Lines.{up_to, lines_of, before_first, after_line}

pub past : (s : List ℕ) (i : ℕ) → length s ≤ i → drop i s ≡ []
past [] i h = drop-nil i
past (x ∷ s) zero h = absurd (not-suc-le-zero h)
past (x ∷ s) (suc i) h = past s i (le_of_suc-le-suc h)

pick : (P : List ℕ → Type 0) (t : Bool) (a b : List ℕ) → P a → P b → P (cond t a b)
pick P true a b h k = h
pick P false a b h k = k

pub up_to_takes : (b : ℕ) (s : List ℕ) → take (length (up_to b s)) s ≡ up_to b s
unfolding up_to
up_to_takes b [] = refl
up_to_takes b (x ∷ s) = pick (λ (l : List ℕ). take (length l) (x ∷ s) ≡ l) (eqb x b) [] (x ∷ up_to b s) refl (ap (λ (l : List ℕ). x ∷ l) (up_to_takes b s))

pub up_to_fits : (b : ℕ) (s : List ℕ) → length (up_to b s) ≤ length s
up_to_fits b s = omega (arith, simp length-take at (ap length (up_to_takes b s)))

-- a first place that is found, or else the length, is how many bytes stand before b
pub up_to_first : (b : ℕ) (s : List ℕ) (r : Option ℕ) → MatchOption r (AllWithin (λ x. x ≡ b → ⊥) s 0 (length s)) (λ i. (i < length s) × HoldsAt (λ x. x ≡ b) s i × AllWithin (λ x. x ≡ b → ⊥) s 0 i) → length (up_to b s) ≡ unwrap_or r (length s)
unfolding up_to
up_to_first b s r h =
    index_from_first (λ l. length (up_to b l)) (λ x. x ≡ b) (λ x. x ≡ b → ⊥) refl
    (λ x xs e. rw (eq-eqb x b e))
    (λ x xs e. rw (ne_eqb x b e, add-one))
    s r h

-- a byte and the lines after it, where t says that it is a newline
cut : (t : Bool) (x : ℕ) (s rest : List ℕ) → before_first x (lines_of s) ≡ (x ∷ up_to 10 s) ∷ lines_of rest → rest ≡ drop (length (up_to 10 s) + 1) s
    → cond t ([] ∷ lines_of s) (before_first x (lines_of s)) ≡ cond t [] (x ∷ up_to 10 s) ∷ lines_of (drop (length (cond t [] (x ∷ up_to 10 s)) + 1) (x ∷ s))
cut true x s rest h e = refl
cut false x s rest h e = rw (add-one, h, e, add-one)

-- the first line, and the lines after it
pub lines-first : (x : ℕ) (s : List ℕ) → lines_of (x ∷ s) ≡ up_to 10 (x ∷ s) ∷ lines_of (drop (length (up_to 10 (x ∷ s)) + 1) (x ∷ s))
unfolding up_to lines_of
lines-first x [] = cut (eqb x 10) x [] [] refl refl
lines-first x (y ∷ s) =
    cut (eqb x 10) x (y ∷ s) (drop (length (up_to 10 (y ∷ s)) + 1) (y ∷ s)) (rw (lines-first y s)) refl

pub lines_none : (s : List ℕ) → length s ≡ 0 → lines_of s ≡ []
unfolding lines_of
lines_none [] e = refl
lines_none (x ∷ s) e = let none : ⊥ = omega (arith, e) in absurd none

pub lines_more : (s : List ℕ) → 0 < length s → lines_of s ≡ up_to 10 s ∷ lines_of (drop (length (up_to 10 s) + 1) s)
lines_more [] h = absurd (not-suc-le-zero h)
lines_more (x ∷ s) h = lines-first x s

-- the line that starts at a place, and those that start after it
pub lines-at : (s : List ℕ) (at : ℕ) → at < length s → lines_of (drop at s) ≡ up_to 10 (drop at s) ∷ lines_of (drop (after_line s at) s)
unfolding after_line
lines-at s at h =
    let rest : drop (length (up_to 10 (drop at s)) + 1) (drop at s) ≡ drop (at + length (up_to 10 (drop at s)) + 1) s =
    drop-drop (length (up_to 10 (drop at s)) + 1) at s ∙ ap (λ (n : ℕ). drop n s) (omega arith) in
    rw (lt-ltb at (length s) h, ← rest) (lines_more (drop at s) (simp length-drop (omega arith)))
