-- The machine's bytes of a line say what the format says of the line. Assumes nothing.
use Prim.Native.Nat.{ℕ, ◌^◌, ◌≤◌}
use mathlib.Core.Path.{◌≡◌, refl, ap, sym, ◌∙◌}
use mathlib.Core.Bool.{Bool, true, false, cond, ◌&&◌}
use mathlib.Core.List.{List, [], ◌∷◌, map, foldl}
use mathlib.Core.Option.{Option, none, some}
use lib.Dec.{ltb, eqb, lit≤}
use native.Mathlib.Omega.{arith}
use Rattle.std.proofs.lemmas.Bool.Decides.{nat_tests}
use borrow.Author.Tests.{lt-ltb}
use Rattle.quote_lines.specs.Bytes.{space, dash, letter_d, letter_t, is_digit}
use Rattle.quote_lines.specs.Format.{onto, fields, all_digits, is_numeral, value, numeral, is, Said, entry, ill, rate_line, depth_line, target_line, says_fields, says}
use Rattle.quote_lines.specs.Machine.{grown, kind_of, within, rate_of, next}
use Rattle.quote_lines.specs.Store.{say_of}
use Rattle.quote_lines.specs.declared.field.Field.{Field}
use Rattle.quote_lines.specs.declared.field.Field.TheVariants.{Empty}
use Rattle.quote_lines.specs.declared.line.Line.{Line}
use Rattle.quote_lines.specs.declared.line.Line.TheVariants.{Nothing, AfterD, AfterDepth, AfterT, Target, Bad}
use Rattle.quote_lines.proofs.Fields.{field_of, Sort, none_read, one_D, one_T, one-dash, digits, else, sort}

-- ---- the bytes of a line, and its fields
-- the rest of a line, to its end
abbrev pub ended : Line → Field → List ℕ → Line
ended l f [] = next l f
ended l f (b ∷ bs) = cond (eqb b space) (ended (next l f) Empty bs) (ended l (grown f b) bs)

-- the fields of the rest of a line, the first of which has begun
abbrev joined : Field → List (List ℕ) → List Field
joined f [] = f ∷ []
joined f (p ∷ ps) = foldl grown f p ∷ map field_of ps

joined-onto : (f : Field) (b : ℕ) (ps : List (List ℕ)) → joined f (onto b ps) ≡ joined (grown f b) ps
unfolding onto
joined-onto f b [] = refl
joined-onto f b (p ∷ ps) = refl

mapped-onto : (b : ℕ) (ps : List (List ℕ)) → joined Empty (onto b ps) ≡ map field_of (onto b ps)
unfolding onto
mapped-onto b [] = refl
mapped-onto b (p ∷ ps) = refl

joined-fresh-by : (b : ℕ) (bs : List ℕ) (t : Bool) → joined Empty (cond t ([] ∷ fields bs) (onto b (fields bs))) ≡ map field_of (cond t ([] ∷ fields bs) (onto b (fields bs)))
joined-fresh-by b bs true = refl
joined-fresh-by b bs false = mapped-onto b (fields bs)

joined-fresh : (bs : List ℕ) → joined Empty (fields bs) ≡ map field_of (fields bs)
unfolding fields
joined-fresh [] = refl
joined-fresh (b ∷ bs) = joined-fresh-by b bs (eqb b space)

ended_by : (l : Line) (f : Field) (b : ℕ) (bs : List ℕ) (t : Bool)
    → ended (next l f) Empty bs ≡ foldl next (next l f) (joined Empty (fields bs))
    → ended l (grown f b) bs ≡ foldl next l (joined (grown f b) (fields bs))
    → cond t (ended (next l f) Empty bs) (ended l (grown f b) bs) ≡ foldl next l (joined f (cond t ([] ∷ fields bs) (onto b (fields bs))))
ended_by l f b bs true p q = p ∙ ap (foldl next (next l f)) (joined-fresh bs)
ended_by l f b bs false p q = q ∙ ap (foldl next l) (sym (joined-onto f b (fields bs)))

ended-fields : (l : Line) (f : Field) (bs : List ℕ) → ended l f bs ≡ foldl next l (joined f (fields bs))
unfolding fields
ended-fields l f [] = refl
ended-fields l f (b ∷ bs) = ended_by l f b bs (eqb b space) (ended-fields (next l f) Empty bs) (ended-fields l (grown f b) bs)

-- ---- what a line says, field by field
bad-stays : (fs : List Field) → foldl next Bad fs ≡ Bad
bad-stays [] = refl
bad-stays (f ∷ fs) = bad-stays fs

-- a field of digits is no other byte
one_byte_not : (b x : ℕ) → is_digit b ≡ false → (is_digit x && true) ≡ true → eqb x b ≡ false
one_byte_not b x d e = grind (arith, nat_tests)

digits-not : (b : ℕ) (q : List ℕ) → is_digit b ≡ false → is_numeral q ≡ true → is b q ≡ false
unfolding is_numeral all_digits is
digits-not b [] d e = refl
digits-not b (x ∷ []) d e = one_byte_not b x d e
digits-not b (x ∷ y ∷ q) d e = refl

pub data Kind (q : List ℕ) : Type 0 where
  kind_D : q ≡ letter_d ∷ [] → kind_of (field_of q) ≡ AfterD → Kind q
  kind_T : q ≡ letter_t ∷ [] → kind_of (field_of q) ≡ AfterT → Kind q
  kind_bad : is letter_d q ≡ false → is letter_t q ≡ false → kind_of (field_of q) ≡ Bad → Kind q

kind-by : (q : List ℕ) → Sort q → Kind q
unfolding is
kind-by q (none_read e f) = kind_bad (ap (is letter_d) e) (ap (is letter_t) e) (ap kind_of f)
kind-by q (one_D e f) = kind_D e (ap kind_of f)
kind-by q (one_T e f) = kind_T e (ap kind_of f)
kind-by q (one-dash e f) = kind_bad (ap (is letter_d) e) (ap (is letter_t) e) (ap kind_of f)
kind-by q (digits e h f) = kind_bad (digits-not letter_d q refl e) (digits-not letter_t q refl e) (ap kind_of f)
kind-by q (else d t m n f) = kind_bad d t (ap kind_of f)

abbrev or_bad : (ℕ → Line) → Option ℕ → Line
or_bad g (some n) = g n
or_bad g none = Bad

-- a number within a smaller bound
none_below : (bound : ℕ) (q : List ℕ) → bound ≤ 2 ^ 64 → (is_numeral q && ltb (value q) (2 ^ 64)) ≡ false → numeral bound q ≡ none
unfolding numeral
none_below bound q h e = grind (arith, nat_tests)

some_below : (bound : ℕ) (q : List ℕ) → is_numeral q ≡ true → numeral bound q ≡ cond (ltb (value q) bound) (some (value q)) none
unfolding numeral
some_below bound q e = rw e

in-cond : (g : ℕ → Line) (n : ℕ) (t : Bool) → cond t (g n) Bad ≡ or_bad g (cond t (some n) none)
in-cond g n t = grind arith

no-numeral : (bound : ℕ) (b : ℕ) (q : List ℕ) → is_digit b ≡ false → q ≡ b ∷ [] → numeral bound q ≡ none
unfolding numeral is_numeral all_digits
no-numeral bound b q d e = rw (e, d)

within_by : (g : ℕ → Line) (q : List ℕ) → Sort q → within g (field_of q) ≡ or_bad g (numeral (2 ^ 32) q)
unfolding numeral is_numeral
within_by g q (none_read e f) = rw (f, e)
within_by g q (one_D e f) = rw (f, no-numeral (2 ^ 32) letter_d q refl e)
within_by g q (one_T e f) = rw (f, no-numeral (2 ^ 32) letter_t q refl e)
within_by g q (one-dash e f) = rw (f, no-numeral (2 ^ 32) dash q refl e)
within_by g q (digits e h f) = rw (f, some_below (2 ^ 32) q e) (in-cond g (value q) (ltb (value q) (2 ^ 32)))
within_by g q (else d t m n f) = rw (f, none_below (2 ^ 32) q (lit≤ tt) n)

-- what the format and the machine say of a rate's field
abbrev rate_said : ℕ → List ℕ → Said
rate_said d q = cond (is dash q) (entry d 0 0) (rate_line d (numeral (2 ^ 64) q))

rate-by : (d : ℕ) (q : List ℕ) → Sort q → say_of (rate_of d (field_of q)) ≡ rate_said d q
unfolding is rate_line numeral is_numeral
rate-by d q (none_read e f) = rw (f, e)
rate-by d q (one_D e f) = rw (f, no-numeral (2 ^ 64) letter_d q refl e, e)
rate-by d q (one_T e f) = rw (f, no-numeral (2 ^ 64) letter_t q refl e, e)
rate-by d q (one-dash e f) = rw (f, e)
rate-by d q (digits e h f) = rw (f, digits-not dash q refl e, some_below (2 ^ 64) q e, lt-ltb (value q) (2 ^ 64) h)
rate-by d q (else nd t m n f) = rw (f, m, none_below (2 ^ 64) q (lit≤ tt) n)

-- no line goes on past its last field
closed : Line → Type 0
closed l = (f : Field) → next l f ≡ Bad

rate_closed : (d : ℕ) (f : Field) → closed (rate_of d f)
unfolding closed
rate_closed d f g = grind arith

closed-ill : (l : Line) (f : Field) (fs : List Field) → closed l → say_of (foldl next l (f ∷ fs)) ≡ ill
unfolding closed
closed-ill l f fs c = rw (c f, bad-stays fs)

-- after `T`: one field
target_one : (o : Option ℕ) → say_of (or_bad Target o) ≡ target_line o
unfolding target_line
target_one o = grind arith

target_closed : (o : Option ℕ) → closed (or_bad Target o)
unfolding closed
target_closed o g = grind arith

-- after `D`: two fields
depth-one : (o : Option ℕ) → say_of (or_bad AfterDepth o) ≡ ill
depth-one o = grind arith

depth-two : (o : Option ℕ) (q : List ℕ) → say_of (next (or_bad AfterDepth o) (field_of q)) ≡ depth_line o q
unfolding depth_line
depth-two (some d) q = rate-by d q (sort q)
depth-two none q = refl

depth_closed : (o : Option ℕ) (f : Field) → closed (next (or_bad AfterDepth o) f)
unfolding closed
depth_closed o f g = grind arith

-- by the first field
fields_bad : (k : List ℕ) (fs : List (List ℕ)) → is letter_d k ≡ false → is letter_t k ≡ false → ill ≡ says_fields (k ∷ fs)
unfolding says_fields
fields_bad k [] d t = refl
fields_bad k (a ∷ []) d t = rw t
fields_bad k (a ∷ b ∷ []) d t = rw d
fields_bad k (a ∷ b ∷ c ∷ fs) d t = refl

more_T : (a b : List ℕ) (fs : List (List ℕ)) → say_of (foldl next AfterT (map field_of (a ∷ b ∷ fs))) ≡ ill
more_T a b fs =
    ap (λ (l : Line). say_of (foldl next l (map field_of (b ∷ fs)))) (within_by Target a (sort a))
    ∙ closed-ill (or_bad Target (numeral (2 ^ 32) a)) (field_of b) (map field_of fs) (target_closed (numeral (2 ^ 32) a))

fields_T : (fs : List (List ℕ)) → say_of (foldl next AfterT (map field_of fs)) ≡ says_fields ((letter_t ∷ []) ∷ fs)
unfolding says_fields is
fields_T [] = refl
fields_T (a ∷ []) = ap say_of (within_by Target a (sort a)) ∙ target_one (numeral (2 ^ 32) a)
fields_T (a ∷ b ∷ []) = more_T a b []
fields_T (a ∷ b ∷ c ∷ fs) = more_T a b (c ∷ fs)

fields_D : (fs : List (List ℕ)) → say_of (foldl next AfterD (map field_of fs)) ≡ says_fields ((letter_d ∷ []) ∷ fs)
unfolding says_fields is
fields_D [] = refl
fields_D (a ∷ []) = ap say_of (within_by AfterDepth a (sort a)) ∙ depth-one (numeral (2 ^ 32) a)
fields_D (a ∷ b ∷ []) = ap (λ (l : Line). say_of (next l (field_of b))) (within_by AfterDepth a (sort a)) ∙ depth-two (numeral (2 ^ 32) a) b
fields_D (a ∷ b ∷ c ∷ fs) =
    ap (λ (l : Line). say_of (foldl next l (map field_of (b ∷ c ∷ fs)))) (within_by AfterDepth a (sort a))
    ∙ closed-ill (next (or_bad AfterDepth (numeral (2 ^ 32) a)) (field_of b)) (field_of c) (map field_of fs) (depth_closed (numeral (2 ^ 32) a) (field_of b))

fields-by : (k : List ℕ) (fs : List (List ℕ)) → Kind k → say_of (foldl next (kind_of (field_of k)) (map field_of fs)) ≡ says_fields (k ∷ fs)
fields-by k fs (kind_D e f) = rw (f, e) (fields_D fs)
fields-by k fs (kind_T e f) = rw (f, e) (fields_T fs)
fields-by k fs (kind_bad d t f) = rw (f, bad-stays (map field_of fs)) (fields_bad k fs d t)

fields_say : (fs : List (List ℕ)) → say_of (foldl next Nothing (map field_of fs)) ≡ says_fields fs
unfolding says_fields
fields_say [] = refl
fields_say (k ∷ fs) = unfold says_fields in fields-by k fs (kind-by k (sort k))

-- the bytes of a line, from its start to its end
pub line-says : (bs : List ℕ) → say_of (ended Nothing Empty bs) ≡ says bs
unfolding says
line-says bs = ap say_of (ended-fields Nothing Empty bs ∙ ap (foldl next Nothing) (joined-fresh bs)) ∙ fields_say (fields bs)
