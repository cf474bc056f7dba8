-- Parts of lists, a list's elements put over another's one by one, a line's words, and digests. Assumes nothing.
use Rattle.std.proofs.Common.{◌≡◌, ℕ, zero, suc, ◌+◌, ◌*◌, ◌<◌, ◌≤◌, min, List, [], ◌∷◌, map, length, get_or, take, drop, set, sym, refl, ap, ◌∙◌, le_of_suc-le-suc, not-suc-le-zero, add-one, arith, drop-cons}
use native.Mathlib.Numerals.{unary_clauses}
use lib.ListN.{length-map, get_or-map}
use lib.Seq.{take-nil}
use Rattle.std.proofs.lemmas.List.{map_more, take-map, take_all}
use Rattle.replay_lines.specs.Hex.{hex_digit, hex_of}
use Rattle.replay_lines.specs.Lines.{words_of}
use Rattle.replay_lines.specs.Digest.{mixed, mixed_all}
use Rattle.replay_lines.specs.Lists.{over}
use Rattle.replay_lines.proofs.Digits.{hex-drop}
use Rattle.replay_lines.proofs.Lines.{past, up_to_fits}

pub over-one : {A : Type 0} (d : A) (xs out : List A) (i : ℕ) → i < length xs → i < length out → set (over (take i xs) out) i (get_or xs i d) ≡ over (take (suc i) xs) out
unfolding over
over-one d [] out i h k = absurd (not-suc-le-zero h)
over-one d (x ∷ xs) [] i h k = absurd (not-suc-le-zero k)
over-one d (x ∷ xs) (y ∷ out) zero h k = refl
over-one {A} d (x ∷ xs) (y ∷ out) (suc i) h k = ap (λ (l : List A). x ∷ l) (over-one d xs out i (le_of_suc-le-suc h) (le_of_suc-le-suc k))

pub over_length : {A : Type 0} (xs out : List A) → length (over xs out) ≡ length out
unfolding over
over_length [] out = refl
over_length (x ∷ xs) [] = refl
over_length (x ∷ xs) (y ∷ out) = ap suc (over_length xs out)

pub over_all : {A : Type 0} (xs out : List A) → over (take (min (length xs) (length out)) xs) out ≡ over xs out
unfolding over
over_all {A} [] out = rw (take-nil {A = A} (min 0 (length out)))
over_all (x ∷ xs) [] = simp unary_clauses
over_all {A} (x ∷ xs) (y ∷ out) = simp unary_clauses (ap (λ (l : List A). x ∷ l) (over_all xs out))

-- the first elements of a list by f: one more, and all
pub all_lows : {A : Type 0} (f : ℕ → A) (xs : List ℕ) (n i : ℕ) → length (take n xs) ≤ i → map f (take i (take n xs)) ≡ take n (map f xs)
all_lows f xs n i h = rw (take-map f n xs, take_all i (take n xs) h)

pub ruleset lows = (map_more, all_lows)

module _ {A : Type 0} (f : A → ℕ) (d : ℕ) (xs : List A) (i : ℕ) where
  pub mixed_one : (x : A) → i < length xs → x ≡ get_or xs i x → mixed_all (mixed d (f x)) (drop (i + 1) (map f xs)) ≡ mixed_all d (drop i (map f xs))
  unfolding mixed_all
  mixed_one x h e =
      let k : i < length (map f xs) = omega (arith, length-map xs f) in
      let v : get_or (map f xs) i (f x) ≡ f x = get_or-map f xs i x ∙ ap f (sym e) in
      rw (add-one, drop-cons (map f xs) i (f x) k, v)

  pub mixed_end : length xs ≤ i → mixed_all d (drop i (map f xs)) ≡ d
  unfolding mixed_all
  mixed_end h = rw (past (map f xs) i (omega (arith, length-map xs f)))

pub words-length : (s : List ℕ) (at n : ℕ) → length (words_of s at n) ≡ n
unfolding words_of
words-length s at zero = refl
words-length s at (suc n) = ap suc (words-length s (at + 17) n)

pub words-one : (s : List ℕ) (at n i : ℕ) → i < n → get_or (words_of s at n) i 0 ≡ hex_of s (at + 1 + 17 * i) 16
unfolding words_of
words-one s at zero i h = absurd (not-suc-le-zero h)
words-one s at (suc n) zero h = simp unary_clauses
words-one s at (suc n) (suc i) h =
    let e : at + 17 + 1 + 17 * i ≡ at + 1 + 17 * suc i = omega arith in
    words-one s (at + 17) n i (le_of_suc-le-suc h) ∙ ap (λ (k : ℕ). hex_of s k 16) e

no_digits : hex_of [] 0 16 ≡ 0
unfolding hex_of hex_digit
no_digits = refl

-- a line's words put over a list: one more, one that starts past the line's end, and all
module _ (s : List ℕ) (at : ℕ) (out : List ℕ) (i : ℕ) where
  pub put_word : (w : ℕ) → w ≡ hex_of (drop (at + 1 + 17 * i) s) 0 16 → i < 512 → i < length out
      → set (over (take i (words_of s at 512)) out) i w ≡ over (take (i + 1) (words_of s at 512)) out
  put_word w v h k =
      rw (add-one, v, hex-drop s (at + 1 + 17 * i) 16, ← (words-one s at 512 i h))
      (over-one 0 (words_of s at 512) out i (omega (arith, words-length s at 512)) k)

  pub put_none : length s ≤ at + 1 + 17 * i → i < 512 → i < length out
      → set (over (take i (words_of s at 512)) out) i 0 ≡ over (take (i + 1) (words_of s at 512)) out
  put_none e h k = put_word 0 (rw (past s (at + 1 + 17 * i) e) (sym no_digits)) h k

  pub put_words : i ≡ min (length out) 512 → over (take i (words_of s at 512)) out ≡ over (words_of s at 512) out
  put_words n =
      let all : i ≡ min (length (words_of s at 512)) (length out) = omega (arith, words-length s at 512) in
      rw all (over_all (words_of s at 512) out)

pub ruleset words_put = (up_to_fits, put_word, put_none, put_words, over_length)
