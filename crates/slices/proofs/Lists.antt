-- Laws of `tabulate`: its length, what stands at a place of it, and how tables grow, agree and are mapped. Assumes nothing.
use Rattle.std.proofs.Common.{◌≡◌, ℕ, zero, suc, ◌+◌, ◌-◌, ◌<◌, ◌≤◌, List, [], ◌∷◌, ◌++◌, map, length, get_or, take, drop, sym, refl, ap, ◌∙◌, le_of_suc-le-suc, not-suc-le-zero, add-zero, add-suc, suc-add, zero-add, arith, length-drop, length-take-le, get_or-drop, get_or-take, ext_get_or}
use Rattle.slices.specs.Lists.{tabulate}

module _ {A : Type 0} (f : ℕ → A) where
  pub tabulate-length : (i n : ℕ) → length (tabulate f i n) ≡ n
  unfolding tabulate
  tabulate-length i zero = refl
  tabulate-length i (suc n) = ap suc (tabulate-length (suc i) n)

  from : (d : A) (i n k : ℕ) → k < n → get_or (tabulate f i n) k d ≡ f (i + k)
  unfolding tabulate
  from d i zero k h = absurd (not-suc-le-zero h)
  from d i (suc n) zero h = ap f (sym (add-zero i))
  from d i (suc n) (suc k) h = from d (suc i) n k (le_of_suc-le-suc h) ∙ ap f (suc-add i k ∙ sym (add-suc i k))

  pub tabulate-at : (d : A) (n k : ℕ) → k < n → get_or (tabulate f 0 n) k d ≡ f k
  tabulate-at d n k h = from d 0 n k h ∙ ap f (zero-add k)

  -- a list of n elements that has f at each place
  pub tabulate-is : (d : A) (n : ℕ) (l : List A) → length l ≡ n → ((k : ℕ) → k < n → get_or l k d ≡ f k) → l ≡ tabulate f 0 n
  tabulate-is d n l e h = ext_get_or d l (tabulate f 0 n) (e ∙ sym (tabulate-length 0 n)) (λ k r. let q : k < n = rw e at r in h k q ∙ sym (tabulate-at d n k q))

  -- one more at the end
  pub tabulate_snoc : (i n : ℕ) → tabulate f i (suc n) ≡ tabulate f i n ++ (f (i + n) ∷ [])
  unfolding tabulate
  tabulate_snoc i zero = ap (λ k. f k ∷ []) (sym (add-zero i))
  tabulate_snoc i (suc n) = ap (λ l. f i ∷ l) (tabulate_snoc (suc i) n ∙ ap (λ k. tabulate f (suc i) n ++ (f k ∷ [])) (suc-add i n ∙ sym (add-suc i n)))

-- a part of a list
pub part_table : {A : Type 0} (d : A) (xs : List A) (a n : ℕ) → a + n ≤ length xs → take n (drop a xs) ≡ tabulate (λ k. get_or xs k d) a n
part_table d xs a n h =
    ext_get_or d (take n (drop a xs)) (tabulate (λ k. get_or xs k d) a n) (long ∙ sym (tabulate-length (λ k. get_or xs k d) a n))
    (λ i r. let q : i < n = rw long at r in get_or-take n (drop a xs) i d q ∙ get_or-drop a xs i d ∙ sym (from (λ k. get_or xs k d) d a n i q))
  where
    long : length (take n (drop a xs)) ≡ n
    long = length-take-le n (drop a xs) (rw length-drop (omega arith))

-- the same, counted from o
offset : {A : Type 0} (f : ℕ → A) (o i n : ℕ) → tabulate f (o + i) n ≡ tabulate (λ k. f (o + k)) i n
unfolding tabulate
offset f o i zero = refl
offset f o i (suc n) = ap (λ l. f (o + i) ∷ l) (ap (λ m. tabulate f m n) (sym (add-suc o i)) ∙ offset f o (suc i) n)

pub part_offset : {A : Type 0} (d : A) (xs : List A) (o i n : ℕ) → o + i + n ≤ length xs → take n (drop (o + i) xs) ≡ tabulate (λ k. get_or xs (o + k) d) i n
part_offset d xs o i n h = part_table d xs (o + i) n h ∙ offset (λ k. get_or xs k d) o i n

-- two tables go by their elements
module _ {A : Type 0} (f g : ℕ → A) where
  pub tabulate-same : (i n : ℕ) → ((k : ℕ) → i ≤ k → k < i + n → f k ≡ g k) → tabulate f i n ≡ tabulate g i n
  unfolding tabulate
  tabulate-same i zero h = refl
  tabulate-same i (suc n) h = rw (h i (omega arith) (omega arith)) (ap (λ l. g i ∷ l) (tabulate-same (suc i) n (λ k p q. h k (omega arith) (omega arith))))

  pub tabulate_shift : (i n : ℕ) → ((k : ℕ) → i ≤ k → k < i + n → f (suc k) ≡ g k) → tabulate f (suc i) n ≡ tabulate g i n
  unfolding tabulate
  tabulate_shift i zero h = refl
  tabulate_shift i (suc n) h = rw (h i (omega arith) (omega arith)) (ap (λ l. g i ∷ l) (tabulate_shift (suc i) n (λ k p q. h k (omega arith) (omega arith))))

  pub same_at : (i n k : ℕ) → tabulate f i n ≡ tabulate g i n → i ≤ k → k < i + n → f k ≡ g k
  same_at i n k e p q =
      let j : i + (k - i) ≡ k = omega arith in
      sym (rw j at (from f (f k) i n (k - i) (omega arith))) ∙ ap (λ l. get_or l (k - i) (f k)) e ∙ rw j at (from g (f k) i n (k - i) (omega arith))

pub map_table : {A B : Type 0} (h : A → B) (f : ℕ → A) (i n : ℕ) → map h (tabulate f i n) ≡ tabulate (λ k. h (f k)) i n
unfolding tabulate
map_table h f i zero = refl
map_table h f i (suc n) = ap (λ l. h (f i) ∷ l) (map_table h f (suc i) n)
