-- Lists of rates as numbers with marks, and back. Assumes nothing.
use Rattle.std.proofs.Common.{◌≡◌, ℕ, zero, suc, ◌≤◌, true, leb, List, [], ◌∷◌, map, length, get_or, sym, refl, ap, lit≤, le-leb}
use mathlib.Core.Option.{Option, none, some}
use mir.Val.{bool_byte}
use Rattle.std.specs.Prelude.{Some, None}
use Rattle.std.specs.Option.{is_some, unwrap_or}
use Rattle.std.specs.declared.option.Option as rust
use Rattle.slices.proofs.Every.{every_true}
use Rattle.slices.proofs.Lists.{tabulate-is}
use Rattle.rbitcoin_mempool.specs.Rates.{given, marked, rate_at, rates_of, marks_valid, number_of, mark_of, numbers_of, marks_of}

pub map-length : {A B : Type 0} (f : A → B) (xs : List A) → length (map f xs) ≡ length xs
map-length f [] = refl
map-length f (x ∷ xs) = ap suc (map-length f xs)

pub numbers-length : (os : List (Option ℕ)) → length (numbers_of os) ≡ length os
numbers-length os = map-length number_of os

pub marks-length : (os : List (Option ℕ)) → length (marks_of os) ≡ length os
marks-length os = map-length mark_of os

-- one rate as the code writes it: its number or 0, and whether it is there
pub number_written : (r : rust.Option ℕ) → unwrap_or r 0 ≡ number_of (given r)
number_written (Some x) = refl
number_written None = refl

pub mark_written : (r : rust.Option ℕ) → bool_byte (is_some r) ≡ mark_of (given r)
mark_written (Some x) = refl
mark_written None = refl

-- one rate, written and read
there-again : (o : Option ℕ) → marked (number_of o) (mark_of o) ≡ o
there-again none = refl
there-again (some r) = refl

pub map_at : {A B : Type 0} (f : A → B) (xs : List A) (d : A) (e : B) → f d ≡ e → (i : ℕ) → get_or (map f xs) i e ≡ f (get_or xs i d)
map_at f [] d e h i = sym h
map_at f (x ∷ xs) d e h zero = refl
map_at f (x ∷ xs) d e h (suc i) = map_at f xs d e h i

pub rate-again : (os : List (Option ℕ)) (i : ℕ) → rate_at (numbers_of os) (marks_of os) i ≡ get_or os i none
rate-again os i = rw (map_at number_of os none 0 refl i, map_at mark_of os none 0 refl i) (there-again (get_or os i none))

pub rates-again : (os : List (Option ℕ)) → rates_of (numbers_of os) (marks_of os) ≡ os
unfolding rates_of
rates-again os = sym (tabulate-is (rate_at (numbers_of os) (marks_of os)) none (length (numbers_of os)) os (sym (numbers-length os)) (λ k l. sym (rate-again os k)))

mark-le : (o : Option ℕ) → mark_of o ≤ 1
mark-le none = lit≤ tt
mark-le (some r) = lit≤ tt

pub marks-again : (os : List (Option ℕ)) → marks_valid (marks_of os) ≡ true
unfolding marks_valid
marks-again os = every_true (λ i. leb (get_or (marks_of os) i 0) 1) (length (marks_of os)) (λ k l. rw (map_at mark_of os none 0 refl k) (le-leb _ _ (mark-le (get_or os k none))))
