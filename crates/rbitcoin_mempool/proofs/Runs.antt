-- The running least of a list of optional values. Of whole numbers beside fractions at the same places, each less than 2 apart, the running leasts stand at the same places, less than 2 apart;
-- the whole numbers' never rises; and it is what the hold pass leaves. Assumes nothing.
use Rattle.std.proofs.Common.{◌≡◌, ℕ, zero, suc, ◌+◌, ◌*◌, ◌<◌, ◌≤◌, min, Bool, true, false, cond, not, T, leb, List, [], ◌∷◌, length, get_or, sym, refl, ap, ◌∙◌, subst, inl, inr, le_trans, le_refl, le_of_suc-le-suc, not-suc-le-zero, lt_of_le_of_lt, le_of_lt, mul-le-mul_right, lt_of_mul-lt-mul_right, eq-or-lt_of_le, mul-lt-mul_of_pos_right, arith, leb→le}
use mathlib.Core.Option.{Option, none, some}
use native.Mathlib.Nat.{min-le_left, min_comm}
use lib.Dec.{nleb→lt}
use Rattle.slices.specs.Lists.{tabulate}
use Rattle.rbitcoin_mempool.specs.Hold.{no_more, enforce_monotone_desc, fill_holes, defined, put_back, hold_defined_then_monotone}
use Rattle.rbitcoin_mempool.specs.Exact.{Frac, lesser_frac, Within, Both, least, least_so_far}

-- ---- two lists, value by value
module _ {A B : Type 0} (R : A → B → Type 0) where
  -- as many, and that at each place
  abbrev pub Each : List (Option A) → List (Option B) → Type 0
  Each [] [] = Unit {0}
  Each [] (y ∷ ys) = ⊥
  Each (x ∷ xs) [] = ⊥
  Each (x ∷ xs) (y ∷ ys) = Both R x y × Each xs ys

  module _ (f : A → A → A) (g : B → B → B) (keep : (a a' : A) (b b' : B) → R a b → R a' b' → R (f a a') (g b b')) where
    least-both : (x x' : Option A) (y y' : Option B) → Both R x y → Both R x' y' → Both R (least f x x') (least g y y')
    least-both none x' none y' h k = k
    least-both none x' (some b) y' h k = absurd h
    least-both (some a) x' none y' h k = absurd h
    least-both (some a) none (some b) none h k = h
    least-both (some a) none (some b) (some b') h k = absurd k
    least-both (some a) (some a') (some b) none h k = absurd k
    least-both (some a) (some a') (some b) (some b') h k = keep a a' b b' h k

    pub least_each : (x : Option A) (y : Option B) (xs : List (Option A)) (ys : List (Option B)) → Both R x y → Each xs ys → Each (least_so_far f x xs) (least_so_far g y ys)
    unfolding least_so_far
    least_each x y [] [] h k = tt
    least_each x y [] (b ∷ ys) h k = absurd k
    least_each x y (a ∷ xs) [] h k = absurd k
    least_each x y (a ∷ xs) (b ∷ ys) h k =
        let l = least-both x a y b h k.0 in
        (l, least_each (least f x a) (least g y b) xs ys l k.1)

-- ---- the lesser of two numbers beside the lesser of two fractions
other : (m n : ℕ) → min m n < m → min m n ≡ n
other m n h = omega arith

-- a / b ≤ c / d, with m near a / b and n near c / d: the lesser of m and n is near a / b
first-least : (m n a b c d : ℕ) → 0 < b → a * d ≤ c * b → m * b < a + 2 * b → a < m * b + 2 * b → c < n * d + 2 * d
    → (min m n * b < a + 2 * b) × (a < min m n * b + 2 * b)
first-least m n a b c d B h mo mu nu =
    let x : c * b < (n * d + 2 * d) * b = mul-lt-mul_of_pos_right nu B in
    let y : a < n * b + 2 * b = lt_of_mul-lt-mul_right d {m = a} {n = n * b + 2 * b} (omega arith) in (
      lt_of_le_of_lt (mul-le-mul_right b (min-le_left m n)) mo,
      elim (eq-or-lt_of_le (min-le_left m n)) [
        | inl e ↦ subst (λ (z : ℕ). a < z * b + 2 * b) (sym e) mu
        | inr l ↦ subst (λ (z : ℕ). a < z * b + 2 * b) (sym (other m n l)) y
      ],
    )

pub min_near : (m n : ℕ) (a b : Frac) → Within 2 m a → Within 2 n b → Within 2 (min m n) (lesser_frac a b)
min_near m n a b h k = go (leb (a.num * b.den) (b.num * a.den)) (leb→le (a.num * b.den) (b.num * a.den)) (nleb→lt (a.num * b.den) (b.num * a.den))
  where
    go : (t : Bool) → (T t → a.num * b.den ≤ b.num * a.den) → (T (not t) → b.num * a.den < a.num * b.den) → Within 2 (min m n) (cond t a b)
    go true l g =
        let r = first-least m n a.num a.den b.num b.den h.pos (l tt) h.over h.under k.under in
        record { pos = h.pos; over = r.0; under = r.1 }
    go false l g =
        let r = first-least n m b.num b.den a.num a.den k.pos (le_of_lt (g tt)) k.over k.under h.under in
        subst (λ (z : ℕ). Within 2 z b) (min_comm n m) (record { pos = k.pos; over = r.0; under = r.1 })

-- `Each` at a place
pub each_at : {A B : Type 0} (R : A → B → Type 0) (xs : List (Option A)) (ys : List (Option B)) (i : ℕ) → Each R xs ys → Both R (get_or xs i none) (get_or ys i none)
each_at R [] [] i h = tt
each_at R [] (y ∷ ys) i h = absurd h
each_at R (x ∷ xs) [] i h = absurd h
each_at R (x ∷ xs) (y ∷ ys) zero h = h.0
each_at R (x ∷ xs) (y ∷ ys) (suc i) h = each_at R xs ys i h.1

-- ---- it never rises: what stands later is there, and is at most m
pub record AtMost (m : ℕ) (o : Option ℕ) : Type 0 where
  pub value : ℕ
  pub is : o ≡ some value
  pub le : value ≤ m

lower : (k m : ℕ) (o : Option ℕ) → k ≤ m → AtMost k o → AtMost m o
lower k m o h a = record { value = a.value; is = a.is; le = le_trans a.le h }

later : (m : ℕ) (xs : List (Option ℕ)) (j : ℕ) → j < length xs → AtMost m (get_or (least_so_far min (some m) xs) j none)
unfolding least_so_far
later m [] j h = absurd (not-suc-le-zero h)
later m (none ∷ xs) zero h = record { value = m; is = refl; le = le_refl m }
later m (none ∷ xs) (suc j) h = later m xs j (le_of_suc-le-suc h)
later m (some k ∷ xs) zero h = record { value = min m k; is = refl; le = min-le_left m k }
later m (some k ∷ xs) (suc j) h = lower (min m k) m (get_or (least_so_far min (some (min m k)) xs) j none) (min-le_left m k) (later (min m k) xs j (le_of_suc-le-suc h))

pub falls : (x : Option ℕ) (xs : List (Option ℕ)) (i j m : ℕ) → i ≤ j → j < length xs → get_or (least_so_far min x xs) i none ≡ some m → AtMost m (get_or (least_so_far min x xs) j none)
unfolding least_so_far
falls x [] i j m h l e = absurd (not-suc-le-zero l)
falls x (y ∷ ys) zero zero m h l e = record { value = m; is = e; le = le_refl m }
falls x (y ∷ ys) zero (suc j) m h l e = subst (λ (z : Option ℕ). AtMost m (get_or (least_so_far min z ys) j none)) (sym e) (later m ys j (le_of_suc-le-suc l))
falls x (y ∷ ys) (suc i) zero m h l e = absurd (not-suc-le-zero h)
falls x (y ∷ ys) (suc i) (suc j) m h l e = falls (least min x y) ys i j m (le_of_suc-le-suc h) (le_of_suc-le-suc l) e

-- ---- lists that are tabulated
pub tabulate_each : {A B : Type 0} (R : A → B → Type 0) (f : ℕ → Option A) (g : ℕ → Option B) (i n : ℕ) → ((k : ℕ) → i ≤ k → k < i + n → Both R (f k) (g k)) → Each R (tabulate f i n) (tabulate g i n)
unfolding tabulate
tabulate_each R f g i zero h = tt
tabulate_each R f g i (suc n) h = (h i (omega arith) (omega arith), tabulate_each R f g (suc i) n (λ k a b. h k (omega arith) (omega arith)))

pub least-length : {A : Type 0} (f : A → A → A) (x : Option A) (xs : List (Option A)) → length (least_so_far f x xs) ≡ length xs
unfolding least_so_far
least-length f x [] = refl
least-length f x (y ∷ ys) = ap suc (least-length f (least f x y) ys)

-- ---- the hold pass
-- v is the last rate that is there, m the least so far
after : (v m : ℕ) (os : List (Option ℕ)) → m ≤ v → put_back (fill_holes (some v) os) (no_more m (defined (fill_holes (some v) os))) ≡ least_so_far min (some m) os
unfolding fill_holes defined no_more put_back least_so_far
after v m [] h = refl
after v m (some x ∷ os) h =
    let e : min x m ≡ min m x = min_comm x m in
    ap (λ (z : ℕ). some z ∷ put_back (fill_holes (some x) os) (no_more z (defined (fill_holes (some x) os)))) e
    ∙ ap (λ (l : List (Option ℕ)). some (min m x) ∷ l) (after x (min m x) os (omega arith))
after v m (none ∷ os) h =
    let e : min v m ≡ m = omega arith in
    ap (λ (z : ℕ). some z ∷ put_back (fill_holes (some v) os) (no_more z (defined (fill_holes (some v) os)))) e
    ∙ ap (λ (l : List (Option ℕ)). some m ∷ l) (after v m os h)

pub hold-is : (os : List (Option ℕ)) → hold_defined_then_monotone os ≡ least_so_far min none os
unfolding hold_defined_then_monotone enforce_monotone_desc fill_holes defined no_more put_back least_so_far
hold-is [] = refl
hold-is (none ∷ os) = ap (λ (l : List (Option ℕ)). none ∷ l) (hold-is os)
hold-is (some x ∷ os) = ap (λ (l : List (Option ℕ)). some x ∷ l) (after x x os (le_refl x))
