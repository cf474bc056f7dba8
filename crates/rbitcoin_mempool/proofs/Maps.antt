-- A list that is filled, a place at a time from the front, with what a function makes of the elements of another, or of its own. Assumes nothing.
use Rattle.std.proofs.Common.{◌≡◌, ℕ, suc, ◌+◌, ◌<◌, ◌≤◌, List, [], ◌∷◌, ◌++◌, map, length, get_or, take, drop, set, sym, refl, ap, ◌∙◌, append-nil, add-one, arith, drop_of_length-le, length-take-le, take_all, drop-cons, take-suc}
use lib.ListN.{length-map}
use lib.Seq.{set_at, get_or_at}

-- a function that changes nothing
pub map_same : {A : Type 0} (g : A → A) → ((x : A) → g x ≡ x) → (l : List A) → map g l ≡ l
map_same g e [] = refl
map_same g e (x ∷ l) = rw (e x, map_same g e l)

module _ {A B : Type 0} (g : A → B) (l : List A) (t : List B) where
  -- the first i places of t filled
  abbrev pub filled : ℕ → List B
  filled i = map g (take i l) ++ drop i t

  snoc : (xs : List A) (a : A) (r : List B) → map g (xs ++ (a ∷ [])) ++ r ≡ map g xs ++ g a ∷ r
  snoc [] a r = refl
  snoc (x ∷ xs) a r = ap (λ (u : List B). g x ∷ u) (snoc xs a r)

  module _ (i : ℕ) (h : i < length l) (k : i < length t) where
    long : length (map g (take i l)) ≡ i
    long = length-map (take i l) g ∙ length-take-le i l (omega arith)

    pub filled_at : (e : B) → get_or (filled i) i e ≡ get_or t i e
    filled_at e = rw (drop-cons t i e k, get_or_at (map g (take i l)) (get_or t i e) (drop (suc i) t) e i long)

    pub filled_more : (d : A) (e : B) → set (filled i) i (g (get_or l i d)) ≡ filled (i + 1)
    filled_more d e =
        rw (add-one, drop-cons t i e k, set_at (map g (take i l)) (get_or t i e) (drop (suc i) t) (g (get_or l i d)) i long, take-suc l i d h)
        (sym (snoc (take i l) (get_or l i d) (drop (suc i) t)))

  pub filled_all : (n : ℕ) → length l ≤ n → length t ≤ n → filled n ≡ map g l
  filled_all n h k = rw (take_all n l h, drop_of_length-le t {i = n} k) (append-nil (map g l))
