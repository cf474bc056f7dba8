-- What the bytes of a field bring the machine to, and what each next field makes of a line. Assumes nothing.
use Prim.Native.Nat.{ℕ, ◌^◌, ◌≤◌, ◌<◌}
use native.Mathlib.Nat.{le_refl, le_trans}
use native.Mathlib.Omega.{arith}
use mathlib.Core.Path.{◌≡◌, refl, ap, sym, subst, ◌∙◌}
use mathlib.Core.Bool.{Bool, true, false, cond, ◌&&◌}
use mathlib.Core.List.{List, [], ◌∷◌, foldl}
use lib.Dec.{ltb, eqb, lit<}
use Rattle.std.proofs.lemmas.Bool.{and_parts}
use Rattle.std.proofs.lemmas.Bool.Decides.{nat_tests}
use borrow.Author.Tests.{lt-ltb, ltb-true, eqb-true}
use Rattle.quote_lines.specs.Bytes.{dash, letter_d, letter_t, is_digit, shifted}
use Rattle.quote_lines.specs.Format.{all_digits, is_numeral, value, is}
use Rattle.quote_lines.specs.Machine.{digits_on, first_byte, grown}
use Rattle.quote_lines.specs.declared.field.Field.{Field}
use Rattle.quote_lines.specs.declared.field.Field.TheVariants.{Empty, LetterD, LetterT, Dash, Number, Other}

abbrev pub field_of : List ℕ → Field
field_of q = foldl grown Empty q

other-stays : (q : List ℕ) → foldl grown Other q ≡ Other
other-stays [] = refl
other-stays (x ∷ q) = other-stays q

value_grows : (n : ℕ) (q : List ℕ) → n ≤ foldl shifted n q
value_grows n [] = le_refl n
value_grows n (x ∷ q) = le_trans (omega arith) (value_grows (shifted n x) q)

-- digits behind a number
as_number : ℕ → List ℕ → Field
as_number n q = cond (all_digits q && ltb (foldl shifted n q) (2 ^ 64)) (Number (foldl shifted n q)) Other

-- one byte more of a number, where what follows is known of a number that fits
one_digit : (n x : ℕ) (q : List ℕ) → (shifted n x < 2 ^ 64 → foldl grown (Number (shifted n x)) q ≡ as_number (shifted n x) q)
    → foldl grown (digits_on n x) q ≡ as_number n (x ∷ q)
unfolding as_number all_digits
one_digit n x q ih = grind (arith, nat_tests, other-stays q, value_grows (shifted n x) q)

digits-behind : (n : ℕ) (q : List ℕ) → n < 2 ^ 64 → foldl grown (Number n) q ≡ as_number n q
unfolding as_number all_digits
digits-behind n [] h = rw (lt-ltb n (2 ^ 64) h)
digits-behind n (x ∷ q) h = unfold as_number in one_digit n x q (digits-behind (shifted n x) q)

-- what a field is, and what its bytes bring the machine to
pub data Sort (q : List ℕ) : Type 0 where
  none_read : q ≡ [] → field_of q ≡ Empty → Sort q
  one_D : q ≡ letter_d ∷ [] → field_of q ≡ LetterD → Sort q
  one_T : q ≡ letter_t ∷ [] → field_of q ≡ LetterT → Sort q
  one-dash : q ≡ dash ∷ [] → field_of q ≡ Dash → Sort q
  digits : is_numeral q ≡ true → value q < 2 ^ 64 → field_of q ≡ Number (value q) → Sort q
  else : is letter_d q ≡ false → is letter_t q ≡ false → is dash q ≡ false → (is_numeral q && ltb (value q) (2 ^ 64)) ≡ false → field_of q ≡ Other → Sort q

-- a field of one byte that is no digit, and a field that begins with it
one_more : (b : ℕ) (f : Field) → is_digit b ≡ false → first_byte b ≡ f → ((y : ℕ) → grown f y ≡ Other)
    → (y : ℕ) (q : List ℕ) → Sort (b ∷ y ∷ q)
unfolding is is_numeral all_digits
one_more b f d e g y q =
    else refl refl refl (rw d) (ap (λ (h : Field). foldl grown (grown h y) q) e ∙ ap (λ (h : Field). foldl grown h q) (g y) ∙ other-stays q)

sort_D : (q : List ℕ) → Sort (letter_d ∷ q)
sort_D [] = one_D refl refl
sort_D (y ∷ q) = one_more letter_d LetterD refl refl (λ z. refl) y q

sort_T : (q : List ℕ) → Sort (letter_t ∷ q)
sort_T [] = one_T refl refl
sort_T (y ∷ q) = one_more letter_t LetterT refl refl (λ z. refl) y q

sort-dash : (q : List ℕ) → Sort (dash ∷ q)
sort-dash [] = one-dash refl refl
sort-dash (y ∷ q) = one_more dash Dash refl refl (λ z. refl) y q

-- a field that begins with another byte
not-one : (b x : ℕ) (q : List ℕ) → eqb x b ≡ false → is b (x ∷ q) ≡ false
unfolding is
not-one b x [] e = e
not-one b x (y ∷ q) e = refl

sort-number : (x : ℕ) (q : List ℕ) (t : Bool) → (is_numeral (x ∷ q) && ltb (value (x ∷ q)) (2 ^ 64)) ≡ t
    → eqb x letter_d ≡ false → eqb x letter_t ≡ false → eqb x dash ≡ false
    → field_of (x ∷ q) ≡ cond t (Number (value (x ∷ q))) Other
    → Sort (x ∷ q)
sort-number x q true e nd nt nm f = let (numeral, small) = and_parts (is_numeral (x ∷ q)) _ e in digits numeral (ltb-true _ _ small) f
sort-number x q false e nd nt nm f = else (not-one letter_d x q nd) (not-one letter_t x q nt) (not-one dash x q nm) e f

first-other : (x : ℕ) → eqb x letter_d ≡ false → eqb x letter_t ≡ false → eqb x dash ≡ false → first_byte x ≡ digits_on 0 x
first-other x nd nt nm = rw (nd, nt, nm)

sort-other : (x : ℕ) (q : List ℕ) → eqb x letter_d ≡ false → eqb x letter_t ≡ false → eqb x dash ≡ false → Sort (x ∷ q)
unfolding as_number is_numeral
sort-other x q nd nt nm =
    sort-number x q (is_numeral (x ∷ q) && ltb (value (x ∷ q)) (2 ^ 64)) refl nd nt nm
    (ap (λ (f : Field). foldl grown f q) (first-other x nd nt nm) ∙ digits-behind 0 (x ∷ q) (lit< tt))

sort-by : (x : ℕ) (q : List ℕ) (d t m : Bool) → eqb x letter_d ≡ d → eqb x letter_t ≡ t → eqb x dash ≡ m → Sort (x ∷ q)
sort-by x q true t m ed et em = subst (λ (b : ℕ). Sort (b ∷ q)) (sym (eqb-true x letter_d ed)) (sort_D q)
sort-by x q false true m ed et em = subst (λ (b : ℕ). Sort (b ∷ q)) (sym (eqb-true x letter_t et)) (sort_T q)
sort-by x q false false true ed et em = subst (λ (b : ℕ). Sort (b ∷ q)) (sym (eqb-true x dash em)) (sort-dash q)
sort-by x q false false false ed et em = sort-other x q ed et em

pub sort : (q : List ℕ) → Sort q
sort [] = none_read refl refl
sort (x ∷ q) = sort-by x q (eqb x letter_d) (eqb x letter_t) (eqb x dash) refl refl refl
