-- The map's operations on a list that is given by its places: which places lie below a key, at it, and above. Assumes nothing.
use Prim.Native.Nat.{ℕ, zero, suc, ◌+◌, ◌-◌, ◌≤◌, ◌<◌}
use mathlib.Core.Bool.{Bool, true, false, cond}
use mathlib.Core.List.{List, [], ◌∷◌, ◌++◌, map, append-nil}
use mathlib.Core.Logic.{inl, inr}
use mathlib.Core.Option.{none, some}
use mathlib.Core.Path.{◌≡◌, refl, sym, ◌∙◌, ap}
use native.Mathlib.Nat.{eq-or-lt_of_le}
use native.Mathlib.Omega.{arith}
use lib.Dec.{leb, ltb}
use lib.ListN.{length, get_or, set, take, drop}
use lib.Seq.{take_all}
use borrow.Author.Tests.{lt-ltb, le-ltb, le-leb, lt-leb, eq-eqb, ne_eqb, ltb-true, ltb-false}
use Rattle.slices.specs.Lists.{tabulate}
use Rattle.slices.proofs.Lists.{tabulate-length, map_table}
use Rattle.slices.proofs.Runs.{front_turn}
use Rattle.rbitcoin_net.specs.Map.{Entry, entry, Above, Ascends, retain, below, above, onward, get, remove, insert}

-- by which of two numbers is the lesser
pub either : {P : Type 0} (a b : ℕ) → (a < b → P) → (b ≤ a → P) → P
either {P} a b f g = go (ltb a b) refl
  where
    go : (t : Bool) → ltb a b ≡ t → P
    go true e = f (ltb-true a b e)
    go false e = g (ltb-false a b e)

pub not-both : false ≡ true → ⊥
not-both e = let z : ◌≡◌ {A = ℕ} 0 1 = ap (λ t. cond t 1 0) e in omega arith

-- p parts the places from a to b: keys below k before it, and at least k from it on
pub record Parts (key : ℕ → ℕ) (k a b p : ℕ) : Type 0 where
  pub low : a ≤ p
  pub high : p ≤ b
  pub before : (i : ℕ) → a ≤ i → i < p → key i < k
  pub behind : (i : ℕ) → p ≤ i → i < b → k ≤ key i

-- keys from a to b never fall
abbrev pub Rising : (ℕ → ℕ) → ℕ → ℕ → Type 0
Rising key a b = (i j : ℕ) → a ≤ i → i ≤ j → j < b → key i ≤ key j

pub table-add : {A : Type 0} (f : ℕ → A) (p a q : ℕ) → tabulate f a (p + q) ≡ tabulate f a p ++ tabulate f (a + p) q
unfolding tabulate
table-add f zero a q =
    let e : 0 + q ≡ q = omega arith in
    let d : a + 0 ≡ a = omega arith in
    rw (e, d)
table-add f (suc p) a q =
    let e : suc p + q ≡ suc (p + q) = omega arith in
    let d : a + suc p ≡ suc a + p = omega arith in
    rw (e, d) (ap (λ l. f a ∷ l) (table-add f p (suc a) q))

pub table-split : {A : Type 0} (f : ℕ → A) (a n p : ℕ) → a ≤ p → p ≤ a + n → tabulate f a n ≡ tabulate f a (p - a) ++ tabulate f p (a + n - p)
table-split f a n p low high =
    let e : n ≡ p - a + (a + n - p) = omega arith in
    let d : a + (p - a) ≡ p = omega arith in
    ap (tabulate f a) e ∙ table-add f (p - a) a (a + n - p) ∙ ap (λ k. tabulate f a (p - a) ++ tabulate f k (a + n - p)) d

-- two tables by their elements, from different places on
pub table_ext : {A : Type 0} (f g : ℕ → A) (n a b : ℕ) → ((i : ℕ) → i < n → f (a + i) ≡ g (b + i)) → tabulate f a n ≡ tabulate g b n
unfolding tabulate
table_ext f g zero a b h = refl
table_ext f g (suc n) a b h =
    let p : a + 0 ≡ a = omega arith in
    let q : b + 0 ≡ b = omega arith in
    let e : f a ≡ g b = rw (p, q) at (h 0 (omega arith)) in
    rw e
    (ap (λ l. g b ∷ l)
    (table_ext f g n (suc a) (suc b)
    (λ i l.
    let u : suc a + i ≡ a + suc i = omega arith in
    let v : suc b + i ≡ b + suc i = omega arith in
    rw (u, v) (h (suc i) (omega arith)))))

pub table_at : {A : Type 0} (f : ℕ → A) (d : A) (a n k : ℕ) → k < n → get_or (tabulate f a n) k d ≡ f (a + k)
unfolding tabulate
table_at f d a zero k h = absurd (omega arith)
table_at f d a (suc n) zero h = let e : a + 0 ≡ a = omega arith in rw e
table_at f d a (suc n) (suc k) h = let e : a + suc k ≡ suc a + k = omega arith in rw e (table_at f d (suc a) n k (omega arith))

-- of each element of a table a number, written to the front of a list: one more, and all
module _ {A : Type 0} (g : A → ℕ) (f : ℕ → A) (a n : ℕ) (xs : List ℕ) (fits : n ≤ length xs) where
  abbrev numbers : List ℕ
  numbers = map g (tabulate f a n)

  numbers-long : length numbers ≡ n
  numbers-long = ap length (map_table g f a n) ∙ tabulate-length (λ k. g (f k)) a n

  number_at : (i : ℕ) → i < n → get_or numbers i 0 ≡ g (f (a + i))
  number_at i l = ap (λ ys. get_or ys i 0) (map_table g f a n) ∙ table_at (λ k. g (f k)) 0 a n i l

  pub table_turn : (zs : List ℕ) (i v : ℕ) → i < n → v ≡ g (f (a + i)) → zs ≡ take i (map g (tabulate f a n)) ++ drop i xs
      → set zs i v ≡ take (i + 1) (map g (tabulate f a n)) ++ drop (i + 1) xs
  table_turn zs i v l e z =
      let m = numbers-long in
      ap (set zs i) (e ∙ sym (number_at i l)) ∙ front_turn xs numbers zs i 0 (omega arith) (omega arith) z

  pub table_done : (zs : List ℕ) (i : ℕ) → i ≡ n → zs ≡ take i (map g (tabulate f a n)) ++ drop i xs → zs ≡ map g (tabulate f a n) ++ drop n xs
  table_done zs i e z =
      let m = numbers-long in
      z ∙ ap (λ k. take k numbers ++ drop k xs) e ∙ ap (λ l. l ++ drop n xs) (take_all n numbers (omega arith))

module _ {A : Type 0} (t : Entry A → Bool) where
  pub retain_append : (xs ys : List (Entry A)) → retain t (xs ++ ys) ≡ retain t xs ++ retain t ys
  unfolding retain
  retain_append [] ys = refl
  retain_append (x ∷ xs) ys = go (t x) (retain_append xs ys)
    where
      go : (b : Bool) → retain t (xs ++ ys) ≡ retain t xs ++ retain t ys → cond b (x ∷ retain t (xs ++ ys)) (retain t (xs ++ ys)) ≡ cond b (x ∷ retain t xs) (retain t xs) ++ retain t ys
      go true e = ap (λ l. x ∷ l) e
      go false e = e

  module _ (f : ℕ → Entry A) where
    all-kept : (n a : ℕ) → ((i : ℕ) → a ≤ i → i < a + n → t (f i) ≡ true) → retain t (tabulate f a n) ≡ tabulate f a n
    unfolding tabulate retain
    all-kept zero a e = refl
    all-kept (suc n) a e = rw (e a (omega arith) (omega arith)) (ap (λ l. f a ∷ l) (all-kept n (suc a) (λ i l m. e i (omega arith) (omega arith))))

    none_kept : (n a : ℕ) → ((i : ℕ) → a ≤ i → i < a + n → t (f i) ≡ false) → retain t (tabulate f a n) ≡ []
    unfolding tabulate retain
    none_kept zero a e = refl
    none_kept (suc n) a e = rw (e a (omega arith) (omega arith)) (none_kept n (suc a) (λ i l m. e i (omega arith) (omega arith)))

module _ {A : Type 0} (f : ℕ → Entry A) where
  abbrev key : ℕ → ℕ
  key i = (f i).key

  above_at : (k n a : ℕ) → Above k (tabulate f a n) → (i : ℕ) → a ≤ i → i < a + n → k < key i
  unfolding tabulate
  above_at k zero a x i l m = absurd (omega arith)
  above_at k (suc n) a x i l m = elim (eq-or-lt_of_le l) [
    | inl e ↦ rw (← e) x.0
    | inr o ↦ above_at k n (suc a) x.1 i o (omega arith)
  ]

  -- ascending as a list, and by place
  pub ascends-at : (n a : ℕ) → Ascends (tabulate f a n) → (i j : ℕ) → a ≤ i → i < j → j < a + n → key i < key j
  unfolding tabulate
  ascends-at zero a x i j l o m = absurd (omega arith)
  ascends-at (suc n) a x i j l o m = elim (eq-or-lt_of_le l) [
    | inl e ↦ rw (← e) (above_at (key a) n (suc a) x.0 j (omega arith) (omega arith))
    | inr w ↦ ascends-at n (suc a) x.1 i j w o (omega arith)
  ]

  above_of : (k n a : ℕ) → ((i : ℕ) → a ≤ i → i < a + n → k < key i) → Above k (tabulate f a n)
  unfolding tabulate
  above_of k zero a h = record {}
  above_of k (suc n) a h = (h a (omega arith) (omega arith), above_of k n (suc a) (λ i l m. h i (omega arith) (omega arith)))

  pub ascends_of : (n a : ℕ) → ((i j : ℕ) → a ≤ i → i < j → j < a + n → key i < key j) → Ascends (tabulate f a n)
  unfolding tabulate
  ascends_of zero a h = record {}
  ascends_of (suc n) a h = (above_of (key a) n (suc a) (λ i l m. h a i (omega arith) l (omega arith)), ascends_of n (suc a) (λ i j l o m. h i j (omega arith) o (omega arith)))

  pub ascends_rising : (n a : ℕ) → Ascends (tabulate f a n) → Rising key a (a + n)
  ascends_rising n a x i j l o m = elim (eq-or-lt_of_le o) [
    | inl e ↦ rw e (omega arith)
    | inr w ↦ omega (arith, ascends-at n a x i j l w m)
  ]

  module _ (k a n p : ℕ) (parts : Parts key k a (a + n) p) where
    two : tabulate f a n ≡ tabulate f a (p - a) ++ tabulate f p (a + n - p)
    two = table-split f a n p parts.low parts.high

    lo_keys : (i : ℕ) → a ≤ i → i < a + (p - a) → key i < k
    lo_keys i l m = parts.before i l (omega arith)

    hi_keys : (i : ℕ) → p ≤ i → i < p + (a + n - p) → k ≤ key i
    hi_keys i l m = parts.behind i l (omega arith)

    pub below_table : below k (tabulate f a n) ≡ tabulate f a (p - a)
    unfolding below
    below_table =
        let t : Entry A → Bool = λ e. ltb e.key k in
        ap (retain t) two
        ∙ retain_append t (tabulate f a (p - a)) (tabulate f p (a + n - p))
        ∙ (λ j. all-kept t f (p - a) a (λ i l m. lt-ltb (key i) k (lo_keys i l m)) j ++ none_kept t f (a + n - p) p (λ i l m. le-ltb (key i) k (hi_keys i l m)) j)
        ∙ append-nil (tabulate f a (p - a))

    pub onward_table : onward k (tabulate f a n) ≡ tabulate f p (a + n - p)
    unfolding onward
    onward_table =
        let t : Entry A → Bool = λ e. leb k e.key in
        ap (retain t) two
        ∙ retain_append t (tabulate f a (p - a)) (tabulate f p (a + n - p))
        ∙ (λ j. none_kept t f (p - a) a (λ i l m. lt-leb k (key i) (lo_keys i l m)) j ++ all-kept t f (a + n - p) p (λ i l m. le-leb k (key i) (hi_keys i l m)) j)

  -- ---- `get`

  module _ (k : ℕ) where
    get_skip : (n a : ℕ) (ys : List (Entry A)) → ((i : ℕ) → a ≤ i → i < a + n → key i ≡ k → ⊥) → get k (tabulate f a n ++ ys) ≡ get k ys
    unfolding tabulate get
    get_skip zero a ys no_way = refl
    get_skip (suc n) a ys no_way = rw (ne_eqb (key a) k (no_way a (omega arith) (omega arith))) (get_skip n (suc a) ys (λ i l m. no_way i (omega arith) (omega arith)))

    -- none is of the key
    pub get_none : (n a : ℕ) → ((i : ℕ) → a ≤ i → i < a + n → key i ≡ k → ⊥) → get k (tabulate f a n) ≡ none
    unfolding get
    get_none n a no_way = ap (get k) (sym (append-nil (tabulate f a n))) ∙ get_skip n a [] no_way

    -- the first of the key is at p
    pub get-found : (a n p : ℕ) → a ≤ p → p < a + n → key p ≡ k → ((i : ℕ) → a ≤ i → i < p → key i ≡ k → ⊥) → get k (tabulate f a n) ≡ some (f p).value
    unfolding tabulate get
    get-found a n p low high e no_way =
        let d : a + n - p ≡ suc (a + n - suc p) = omega arith in
        ap (get k) (table-split f a n p low (omega arith))
        ∙ get_skip (p - a) a (tabulate f p (a + n - p)) (λ i l m. no_way i l (omega arith))
        ∙ ap (λ c. get k (tabulate f p c)) d
        ∙ rw (eq-eqb (key p) k e)

  -- ---- `remove` and `insert`

  module _ (k a n p : ℕ) (asc : Ascends (tabulate f a n)) (parts : Parts key k a (a + n) p) where
    -- from a place on whose keys are all above
    above_from : (q : ℕ) → a ≤ q → q ≤ a + n → ((i : ℕ) → a ≤ i → i < q → key i ≤ k) → ((i : ℕ) → q ≤ i → i < a + n → k < key i) → above k (tabulate f a n) ≡ tabulate f q (a + n - q)
    unfolding above
    above_from q low high less more =
        let t : Entry A → Bool = λ e. ltb k e.key in
        ap (retain t) (table-split f a n q low high)
        ∙ retain_append t (tabulate f a (q - a)) (tabulate f q (a + n - q))
        ∙ (λ j. none_kept t f (q - a) a (λ i l m. le-ltb k (key i) (less i l (omega arith))) j ++ all-kept t f (a + n - q) q (λ i l m. lt-ltb k (key i) (more i l (omega arith))) j)

    later : (i : ℕ) → p < i → i < a + n → k < key i
    later i l m = omega (arith, parts.behind p (omega arith) (omega arith), ascends-at n a asc p i parts.low l m)

    earlier : (i : ℕ) → a ≤ i → i < p → key i ≤ k
    earlier i l m = omega (arith, parts.before i l m)

    -- the key is at p: what stands behind it
    above-found : p < a + n → key p ≡ k → above k (tabulate f a n) ≡ tabulate f (suc p) (a + n - suc p)
    above-found l e =
        above_from (suc p) (omega (arith, parts.low)) (omega arith)
        (λ i b m. either i p (λ o. earlier i b o) (λ o. let q : i ≡ p = omega arith in rw q (omega arith)))
        (λ i b m. later i b m)

    -- the key is not there: what stands from p on
    above_absent : (p < a + n → key p ≡ k → ⊥) → above k (tabulate f a n) ≡ tabulate f p (a + n - p)
    above_absent n-at =
        above_from p parts.low parts.high earlier
        (λ i b m. either p i (λ o. later i o m)
        (λ o.
        let q : i ≡ p = omega arith in
        let r : p < a + n = omega arith in
        let u : k ≤ key p = parts.behind p (omega arith) r in
        rw q (either k (key p) (λ v. v) (λ v. absurd (n-at r (omega arith))))))

    pub remove-found : p < a + n → key p ≡ k → remove k (tabulate f a n) ≡ tabulate f a (p - a) ++ tabulate f (suc p) (a + n - suc p)
    unfolding remove
    remove-found l e = λ j. below_table k a n p parts j ++ above-found l e j

    pub insert-found : (v : A) → p < a + n → key p ≡ k → insert k v (tabulate f a n) ≡ tabulate f a (p - a) ++ entry k v ∷ tabulate f (suc p) (a + n - suc p)
    unfolding insert
    insert-found v l e = λ j. below_table k a n p parts j ++ entry k v ∷ above-found l e j

    pub remove_absent : (p < a + n → key p ≡ k → ⊥) → remove k (tabulate f a n) ≡ tabulate f a n
    unfolding remove
    remove_absent n-at = (λ j. below_table k a n p parts j ++ above_absent n-at j) ∙ sym (two k a n p parts)

    pub insert_absent : (v : A) → (p < a + n → key p ≡ k → ⊥) → insert k v (tabulate f a n) ≡ tabulate f a (p - a) ++ entry k v ∷ tabulate f p (a + n - p)
    unfolding insert
    insert_absent v n-at = λ j. below_table k a n p parts j ++ entry k v ∷ above_absent n-at j
