-- Quotes among rates that never rise: near the exact line, and no target above a nearer one. Assumes nothing.
use Rattle.std.proofs.Common.{◌≡◌, ℕ, zero, suc, ◌-◌, ◌<◌, ◌≤◌, Bool, true, false, leb, List, [], ◌∷◌, length, get_or, take, sym, refl, ap, ◌∙◌, subst, inl, inr, suc-le-suc, zero-le, le_trans, le_of_eq, le_refl, le_of_suc-le-suc, not-suc-le-zero, le_of_lt, eq-or-lt_of_le, mul-pos, arith, length-take, get_or-take, leb-false, leb-true}
use mathlib.Core.Option.{Option, none, some}
use Rattle.rbitcoin_mempool.specs.Target.{unless_later, last_there, between, lerp_sat_kvb}
use Rattle.rbitcoin_mempool.specs.Exact.{Frac, Within, Both, exact_line}
use Rattle.rbitcoin_mempool.specs.Demand3.{Near}
use Rattle.rbitcoin_mempool.proofs.Runs.{Each, each_at, AtMost}
use Rattle.rbitcoin_mempool.proofs.Line.{line, line_near, line-falls, line-between, lerp-is}
use Rattle.rbitcoin_mempool.proofs.Places.{Ascending, First, Place, past, exact, outside, inside, answer_at}

-- ---- the last of two lists that agree
module _ {A B : Type 0} (R : A → B → Type 0) where
  later-both : (x x' : Option A) (y y' : Option B) → Both R x y → Both R x' y' → Both R (unless_later x x') (unless_later y y')
  later-both x none y none h k = h
  later-both x none y (some b) h k = absurd k
  later-both x (some a) y none h k = absurd k
  later-both x (some a) y (some b) h k = k

  last_each : (xs : List (Option A)) (ys : List (Option B)) → Each R xs ys → Both R (last_there xs) (last_there ys)
  unfolding last_there
  last_each [] [] h = tt
  last_each [] (y ∷ ys) h = absurd h
  last_each (x ∷ xs) [] h = absurd h
  last_each (x ∷ xs) (y ∷ ys) h = later-both x (last_there xs) y (last_there ys) h.0 (last_each xs ys h.1)

  each_take : (n : ℕ) (xs : List (Option A)) (ys : List (Option B)) → Each R xs ys → Each R (take n xs) (take n ys)
  each_take zero xs ys h = tt
  each_take (suc n) [] [] h = tt
  each_take (suc n) [] (y ∷ ys) h = absurd h
  each_take (suc n) (x ∷ xs) [] h = absurd h
  each_take (suc n) (x ∷ xs) (y ∷ ys) h = (h.0, each_take n xs ys h.1)

  both-map : (S : A → B → Type 0) → ((a : A) (b : B) → R a b → S a b) → (x : Option A) (y : Option B) → Both R x y → Both S x y
  both-map S f none none h = tt
  both-map S f none (some b) h = h
  both-map S f (some a) none h = h
  both-map S f (some a) (some b) h = f a b h

-- less than 5 / 2 from a fraction that is one
abbrev pub Beside : ℕ → Frac → Type 0
Beside q p = (0 < p.den) × Near q p

beside_2 : (n : ℕ) (a : Frac) → Within 2 n a → Beside n a
beside_2 n a h = (h.pos, record { over = omega (arith, h.over, h.pos); under = omega (arith, h.under, h.pos) })

-- what is there stays there, and never rises
abbrev pub Falls : List (Option ℕ) → Type 0
Falls P = (i j m : ℕ) → i ≤ j → j < length P → get_or P i none ≡ some m → AtMost m (get_or P j none)

some_is : (a b : ℕ) → ◌≡◌ {A = Option ℕ} (some a) (some b) → a ≡ b
some_is a b e = cc

never : {A : Type 0} (a : ℕ) → ◌≡◌ {A = Option ℕ} none (some a) → A
never a e = let z : ◌≡◌ {A = ℕ} 0 1 = cc in absurd (omega arith)

module _ (ds : List ℕ) (P : List (Option ℕ)) (up : Ascending ds) (size : length P ≡ length ds) (fall : Falls P) where
  -- the right end is there and not above the left one
  right_end : (i l r : ℕ) → suc i < length ds → get_or P i none ≡ some l → get_or P (suc i) none ≡ some r → r ≤ l
  right_end i l r w e f =
      let a = fall i (suc i) l (omega arith) (omega (arith, size)) e in
      omega (arith, some_is r a.value (sym f ∙ a.is), a.le)

  -- ---- beside the exact line
  module _ (E : List (Option Frac)) (each : Each (Within 2) P E) (t : ℕ) where
    between-beside : (i : ℕ) → First ds t (suc i) → t < get_or ds (suc i) 0 → (x y : Option ℕ) (X Y : Option Frac) → get_or P i none ≡ x → get_or P (suc i) none ≡ y → Both (Within 2) x X → Both (Within 2) y Y
        → Both Beside (between (λ a b. lerp_sat_kvb (get_or ds i 0) a (get_or ds (suc i) 0) b t) (last_there (take (suc i) P)) x y)
        (between (λ a b. exact_line t (get_or ds i 0) a (get_or ds (suc i) 0) b) (last_there (take (suc i) E)) X Y)
    unfolding exact_line
    between-beside i f l none y none Y p q h k =
        both-map (Within 2) Beside beside_2 (last_there (take (suc i) P)) (last_there (take (suc i) E)) (last_each (Within 2) (take (suc i) P) (take (suc i) E) (each_take (Within 2) (suc i) P E each))
    between-beside i f l none y (some X) Y p q h k = absurd h
    between-beside i f l (some a) y none Y p q h k = absurd h
    between-beside i f l (some a) none (some X) none p q h k = beside_2 a X h
    between-beside i f l (some a) none (some X) (some Y) p q h k = absurd k
    between-beside i f l (some a) (some b) (some X) none p q h k = absurd k
    between-beside i f l (some a) (some b) (some X) (some Y) p q h k =
        let d0 = get_or ds i 0 in
        let d1 = get_or ds (suc i) 0 in
        let o = right_end i a b f.within p q in
        let lo : d0 < t = f.before i (omega arith) in
        let z : d0 < d1 = omega arith in (
          mul-pos (mul-pos h.pos k.pos) (omega arith),
          subst (λ (n : ℕ). Near n (exact_line t d0 X d1 Y)) (sym (lerp-is a b d0 d1 t o z (le_of_lt lo) f.reached)) (line_near a b d0 d1 t X Y o z (le_of_lt lo) f.reached h k),
        )

    pub quote-beside : (p : Place ds t) → Both Beside (answer_at (λ d0 l d1 r. lerp_sat_kvb d0 l d1 r t) ds P t p) (answer_at (exact_line t) ds E t p)
    quote-beside (past n l) = both-map (Within 2) Beside beside_2 (last_there P) (last_there E) (last_each (Within 2) P E each)
    quote-beside (exact i f e) = both-map (Within 2) Beside beside_2 (get_or P i none) (get_or E i none) (each_at (Within 2) P E i each)
    quote-beside (outside f l) = tt
    quote-beside (inside i f l) = between-beside i f l (get_or P i none) (get_or P (suc i) none) (get_or E i none) (get_or E (suc i) none) refl refl (each_at (Within 2) P E i each) (each_at (Within 2) P E (suc i) each)

  -- ---- in order
  -- nothing is there before a place where nothing is
  none_before : (i k : ℕ) → i < length P → get_or P i none ≡ none → k ≤ i → get_or P k none ≡ none
  none_before i k w e l = go (get_or P k none) refl
    where
      go : (x : Option ℕ) → get_or P k none ≡ x → x ≡ none
      go none f = refl
      go (some m) f = let a = fall k i m l w f in never a.value (sym e ∙ a.is)

  last_none : (xs : List (Option ℕ)) → ((k : ℕ) → k < length xs → get_or xs k none ≡ none) → last_there xs ≡ none
  unfolding last_there
  last_none [] h = refl
  last_none (x ∷ xs) h = rw (last_none xs (λ k l. h (suc k) (suc-le-suc l))) (h 0 (suc-le-suc zero-le))

  nothing_left : (i : ℕ) → i < length P → get_or P i none ≡ none → last_there (take (suc i) P) ≡ none
  nothing_left i w e =
      last_none (take (suc i) P)
      (λ k l. let q : k < suc i = omega (arith, length-take (suc i) P) in get_or-take (suc i) P k none q ∙ none_before i k w e (le_of_suc-le-suc q))

  last-is : (xs : List (Option ℕ)) (v : ℕ) → 0 < length xs → get_or xs (length xs - 1) none ≡ some v → last_there xs ≡ some v
  unfolding last_there
  last-is [] v l e = absurd (not-suc-le-zero l)
  last-is (x ∷ []) v l e = e
  last-is (x ∷ (y ∷ ys)) v l e =
      let z : suc (suc (length ys)) - 1 ≡ suc (suc (length ys) - 1) = omega arith in
      rw (last-is (y ∷ ys) v (suc-le-suc zero-le) (subst (λ (n : ℕ). get_or (x ∷ (y ∷ ys)) n none ≡ some v) z e))

  -- the two ends of a quote between two depths
  record Ends (t i q : ℕ) : Type 0 where
    pub left : ℕ
    pub right : ℕ
    pub left_is : get_or P i none ≡ some left
    pub right_is : get_or P (suc i) none ≡ some right
    pub falls : right ≤ left
    pub is : q ≡ line left right (get_or ds i 0) (get_or ds (suc i) 0) t

  ends : (t i q : ℕ) → First ds t (suc i) → t < get_or ds (suc i) 0 → (x y : Option ℕ) → get_or P i none ≡ x → get_or P (suc i) none ≡ y
      → between (λ a b. lerp_sat_kvb (get_or ds i 0) a (get_or ds (suc i) 0) b t) (last_there (take (suc i) P)) x y ≡ some q → Ends t i q
  ends t i q f l none y e g h = never q (sym (nothing_left i (omega (arith, f.within, size)) e) ∙ h)
  ends t i q f l (some a) none e g h = let z = fall i (suc i) a (omega arith) (omega (arith, f.within, size)) e in never z.value (sym g ∙ z.is)
  ends t i q f l (some a) (some b) e g h =
      let d0 = get_or ds i 0 in
      let d1 = get_or ds (suc i) 0 in
      let o = right_end i a b f.within e g in
      let lo : d0 < t = f.before i (omega arith) in
      record {
        left = a;
        right = b;
        left_is = e;
        right_is = g;
        falls = o;
        is = sym (some_is (lerp_sat_kvb d0 a d1 b t) q h) ∙ lerp-is a b d0 d1 t o (omega arith) (le_of_lt lo) f.reached;
      }

  abbrev quote_at : (t : ℕ) → Place ds t → Option ℕ
  quote_at t p = answer_at (λ d0 l d1 r. lerp_sat_kvb d0 l d1 r t) ds P t p

  -- a quote is at most what stands at a place j before it
  module _ (j w r : ℕ) (k : j < length ds) (e : get_or P j none ≡ some w) where
    below : (i v : ℕ) → j ≤ i → i < length ds → get_or P i none ≡ some v → v ≤ w
    below i v l n f = let a = fall j i w l (omega (arith, size)) e in omega (arith, some_is v a.value (sym f ∙ a.is), a.le)

    past-below : last_there P ≡ some r → r ≤ w
    past-below h =
        let a = fall j (length P - 1) w (omega (arith, size)) (omega (arith, size)) e in
        omega (arith, some_is r a.value (sym h ∙ last-is P a.value (omega (arith, size)) a.is), a.le)

    inside-below : (t i : ℕ) → j ≤ i → First ds t (suc i) → Ends t i r → r ≤ w
    inside-below t i l c z =
        omega (arith, z.is, (line-between z.left z.right (get_or ds i 0) (get_or ds (suc i) 0) t z.falls).1, below i z.left l (omega (arith, c.within)) z.left_is)

  -- the first depth at or above a farther target comes no earlier
  no_earlier : (t t' i j : ℕ) → t ≤ t' → First ds t i → t' ≤ get_or ds j 0 → i ≤ j
  no_earlier t t' i j l f h = go (leb i j) refl
    where
      go : (b : Bool) → leb i j ≡ b → i ≤ j
      go true e = leb-true i j e
      go false e = absurd (omega (arith, f.before j (leb-false i j e)))

  -- from a place i at or above the nearer target, whose rate is at most the nearer quote q
  from_place : (t t' i w q r : ℕ) → t ≤ t' → First ds t i → get_or P i none ≡ some w → w ≤ q → (p : Place ds t')
      → ((k : ℕ) → First ds t' (suc k) → t' < get_or ds (suc k) 0 → i ≡ suc k → Ends t' k r → r ≤ q) → quote_at t' p ≡ some r → r ≤ q
  from_place t t' i w q r l f e o (past n m) same h = le_trans (past-below i w r f.within e h) o
  from_place t t' i w q r l f e o (exact k c d) same h = le_trans (below i w r f.within e k r (no_earlier t t' i k l f c.reached) c.within h) o
  from_place t t' i w q r l f e o (outside c d) same h = never r h
  from_place t t' i w q r l f e o (inside k c d) same h =
      let z = ends t' k r c d (get_or P k none) (get_or P (suc k) none) refl refl h in
      elim (eq-or-lt_of_le (no_earlier t t' i (suc k) l f c.reached)) [
        | inl x ↦ same k c d x z
        | inr x ↦ le_trans (inside-below i w r f.within e t' k (le_of_suc-le-suc x) c z) o
      ]

  -- two targets between the same two depths
  same_line : (t t' i q r : ℕ) → t ≤ t' → First ds t (suc i) → First ds t' (suc i) → Ends t i q → Ends t' i r → r ≤ q
  same_line t t' i q r l f g z y =
      let d0 = get_or ds i 0 in
      let d1 = get_or ds (suc i) 0 in
      let a : z.left ≡ y.left = some_is z.left y.left (sym z.left_is ∙ y.left_is) in
      let b : z.right ≡ y.right = some_is z.right y.right (sym z.right_is ∙ y.right_is) in
      let lo : d0 < t = f.before i (omega arith) in
      let m = line-falls z.left z.right d0 d1 t t' z.falls (omega (arith, f.reached)) (le_of_lt lo) l g.reached in
      le_trans (le_of_eq (y.is ∙ rw (← a, ← b))) (le_trans m (le_of_eq (sym z.is)))

  beyond : (t t' i : ℕ) → t ≤ t' → get_or ds (length ds - 1) 0 < t → First ds t' i → ⊥
  beyond t t' i l p f = omega (arith, f.reached, up i (length ds - 1) (omega (arith, f.within)) (omega (arith, f.within)))

  pub quote-order : (t t' q r : ℕ) (p : Place ds t) (p' : Place ds t') → t ≤ t' → quote_at t p ≡ some q → quote_at t' p' ≡ some r → r ≤ q
  quote-order t t' q r (past n m) (past n' m') l h k = le_of_eq (some_is r q (sym k ∙ h))
  quote-order t t' q r (past n m) (exact i c d) l h k = absurd (beyond t t' i l m c)
  quote-order t t' q r (past n m) (outside c d) l h k = absurd (beyond t t' 0 l m c)
  quote-order t t' q r (past n m) (inside i c d) l h k = absurd (beyond t t' (suc i) l m c)
  quote-order t t' q r (exact i f e) p' l h k = from_place t t' i q q r l f h (le_refl q) p' (λ j c d x z. absurd (omega (arith, ap (λ (n : ℕ). get_or ds n 0) x))) k
  quote-order t t' q r (outside f e) p' l h k = never q h
  quote-order t t' q r (inside i f e) p' l h k =
      let z = ends t i q f e (get_or P i none) (get_or P (suc i) none) refl refl h in
      from_place t t' (suc i) z.right q r l f z.right_is (le_trans (line-between z.left z.right (get_or ds i 0) (get_or ds (suc i) 0) t z.falls).0 (le_of_eq (sym z.is))) p'
      (λ j c d x y. let s : j ≡ i = omega arith in same_line t t' i q r l f (rw s at c) z (rw s at y)) k
