-- Texts written one behind the other, and the length of a number's digits. Assumes nothing.
use Prim.Native.Nat.{ℕ, zero, suc, ◌+◌, ◌-◌, ◌/◌, ◌^◌, ◌≤◌, ◌<◌}
use native.Mathlib.Nat.{le_trans, lt_irrefl, lt_of_lt_of_le, pow-le-pow_right}
use native.Mathlib.Decide.{dec_le}
use native.Mathlib.Omega.{arith}
use native.Mathlib.Numerals.{add-one}
use mathlib.Core.Path.{◌≡◌, refl, ap, sym, ◌∙◌}
use mathlib.Core.List.{List, [], ◌∷◌, ◌++◌, append_assoc, append-nil}
use lib.Dec.{ltb, lit<, lit≤}
use lib.ListN.{length, get_or, take, length-append}
use lib.Seq.{take-suc}
use borrow.Author.Tests.{lt-ltb, le-ltb}
use Rattle.io.specs.Digits.{last_digits, IsDigitCount}
use Rattle.slices.specs.Search.{seek}
use Rattle.slices.proofs.Seeking.{seek_is, sought}
use Rattle.quote_board.specs.Text.{width, decimal, quote_lines, quote_line}

-- ---- digits
digits-length : (b k n : ℕ) → length (last_digits b k n) ≡ k
digits-length b zero n = refl
digits-length b (suc k) n = length-append (last_digits b k (n / b)) _ ∙ ap (λ (m : ℕ). m + 1) (digits-length b k (n / b)) ∙ add-one k

pub fewest-small : (n k : ℕ) → n < 2 ^ 64 → IsDigitCount 10 1 n k → k ≤ 20
fewest-small n k h f = by (dec_le k 20)
  where
    by : Dec (k ≤ 20) → k ≤ 20
    by (yes l) = l
    by (no g) =
        let l : 20 < k = omega arith in
        absurd (lt_irrefl n (lt_of_lt_of_le h (le_trans (lit≤ tt) (le_trans (pow-le-pow_right {n = 10} (lit< tt) {i = 20} {j = k - 1} (omega arith)) (f.2 (omega arith))))))

pub width_is : (n k : ℕ) → n < 2 ^ 64 → IsDigitCount 10 1 n k → k ≡ width n
unfolding width
width_is n k h f =
    seek_is (λ j. ltb n (10 ^ j)) 1 19 k f.0 (omega (arith, fewest-small n k h f))
    (λ j a b. le-ltb n (10 ^ j) (le_trans (pow-le-pow_right {n = 10} (lit< tt) {i = j} {j = k - 1} (omega arith)) (f.2 (omega arith))))
    (λ l. lt-ltb n (10 ^ k) f.1)

pub decimal_is : (n k : ℕ) → n < 2 ^ 64 → IsDigitCount 10 1 n k → last_digits 10 k n ≡ decimal n
unfolding decimal
decimal_is n k h f = ap (λ (j : ℕ). last_digits 10 j n) (width_is n k h f)

pub decimal_short : (n : ℕ) → length (decimal n) ≤ 20
unfolding decimal width
decimal_short n = rw (digits-length 10 (seek (λ k. ltb n (10 ^ k)) 1 19) n) (sought (λ k. ltb n (10 ^ k)) 1 19).to

-- ---- the lines of targets, one more
module _ (ds rs ms : List ℕ) where
  quotes_append : (ts us : List ℕ) → quote_lines ds rs ms (ts ++ us) ≡ quote_lines ds rs ms ts ++ quote_lines ds rs ms us
  unfolding quote_lines
  quotes_append [] us = refl
  quotes_append (t ∷ ts) us = ap (λ (x : List ℕ). quote_line ds rs ms t ++ x) (quotes_append ts us) ∙ sym (append_assoc (quote_line ds rs ms t) (quote_lines ds rs ms ts) (quote_lines ds rs ms us))

  quotes-one : (t : ℕ) → quote_lines ds rs ms (t ∷ []) ≡ quote_line ds rs ms t
  unfolding quote_lines
  quotes-one t = append-nil (quote_line ds rs ms t)

  -- behind a text: none, and one more
  pub quotes_none : (out ts : List ℕ) → out ++ quote_lines ds rs ms (take 0 ts) ≡ out
  unfolding quote_lines
  quotes_none out ts = append-nil out

  pub quotes_more : (out ts : List ℕ) (i : ℕ) → i < length ts
      → (out ++ quote_lines ds rs ms (take i ts)) ++ quote_line ds rs ms (get_or ts i 0) ≡ out ++ quote_lines ds rs ms (take (i + 1) ts)
  quotes_more out ts i h =
      append_assoc out (quote_lines ds rs ms (take i ts)) (quote_line ds rs ms (get_or ts i 0))
      ∙ ap (λ (x : List ℕ). out ++ (quote_lines ds rs ms (take i ts) ++ x)) (sym (quotes-one (get_or ts i 0)))
      ∙ ap (λ (x : List ℕ). out ++ x) (sym (quotes_append (take i ts) (get_or ts i 0 ∷ [])))
      ∙ ap (λ (x : List ℕ). out ++ quote_lines ds rs ms x) (sym (take-suc ts i 0 h) ∙ ap (λ (k : ℕ). take k ts) (sym (add-one i)))
