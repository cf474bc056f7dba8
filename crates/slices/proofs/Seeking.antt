-- `seek` by what its result tells. Assumes nothing.
use Rattle.std.proofs.Common.{◌≡◌, ℕ, zero, suc, ◌+◌, ◌<◌, ◌≤◌, Bool, true, false, cond, sym, refl, ◌∙◌, inl, inr, eq-or-lt_of_le, arith}
use Rattle.slices.specs.Search.{seek}

-- no place before r passes, and r does or is the end
pub seek_is : (p : ℕ → Bool) (i n r : ℕ) → i ≤ r → r ≤ i + n → ((k : ℕ) → i ≤ k → k < r → p k ≡ false) → (r < i + n → p r ≡ true) → r ≡ seek p i n
unfolding seek
seek_is p i zero r a b f t = omega arith
seek_is p i (suc n) r a b f t =
    elim (eq-or-lt_of_le a) [
      | inl e ↦ let h : p i ≡ true = rw e (t (omega arith)) in sym e ∙ rw h
      | inr l ↦ rw (f i (omega arith) l) (seek_is p (suc i) n r l (omega arith) (λ k g h. f k (omega arith) h) (λ h. t (omega arith)))
    ]

-- what the result tells
pub record Sought (p : ℕ → Bool) (i n r : ℕ) : Type 0 where
  pub from : i ≤ r
  pub to : r ≤ i + n
  pub before : (k : ℕ) → i ≤ k → k < r → p k ≡ false
  pub here : r < i + n → p r ≡ true

pub sought : (p : ℕ → Bool) (i n : ℕ) → Sought p i n (seek p i n)
unfolding seek
sought p i zero = record { from = omega arith; to = omega arith; before = λ k a b. absurd (omega arith); here = λ l. absurd (omega arith) }
sought p i (suc n) = go (p i) refl (sought p (suc i) n)
  where
    go : (b : Bool) → p i ≡ b → Sought p (suc i) n (seek p (suc i) n) → Sought p i (suc n) (cond b i (seek p (suc i) n))
    go true e s = record { from = omega arith; to = omega arith; before = λ k a l. absurd (omega arith); here = λ l. e }
    go false e s =
        record {
          from = omega (arith, s.from);
          to = omega (arith, s.to);
          before = λ k a l. elim (eq-or-lt_of_le a) [
            | inl q ↦ rw (← q) e
            | inr m ↦ s.before k m l
          ];
          here = λ l. s.here (omega arith);
        }

-- ---- the search by halving, of a test that does not fail again once it holds: it fails below lo, and holds from hi on
pub record Cut (p : ℕ → Bool) (n lo hi : ℕ) : Type 0 where
  pub order : lo ≤ hi
  pub within : hi ≤ n
  pub low : (k : ℕ) → k < lo → p k ≡ false
  pub high : (k : ℕ) → hi ≤ k → k < n → p k ≡ true

pub cut-start : (p : ℕ → Bool) (n : ℕ) → Cut p n 0 n
cut-start p n = record { order = omega arith; within = omega arith; low = λ k h. absurd (omega arith); high = λ k h l. absurd (omega arith) }

module _ (p : ℕ → Bool) (n : ℕ) (stays : (i j : ℕ) → i ≤ j → j < n → p i ≡ true → p j ≡ true) (lo hi mid : ℕ) (c : Cut p n lo hi) (a : lo ≤ mid) (b : mid < hi) where
  fails : p mid ≡ false → (k : ℕ) → k < mid + 1 → p k ≡ false
  fails h k l = go (p k) refl
    where
      go : (t : Bool) → p k ≡ t → t ≡ false
      go true e = sym (stays k mid (omega arith) (omega (arith, c.within)) e) ∙ h
      go false e = refl

  pub cut_up : p mid ≡ false → Cut p n (mid + 1) hi
  cut_up h = record { order = omega arith; within = c.within; low = fails h; high = c.high }

  pub cut_down : p mid ≡ true → Cut p n lo mid
  cut_down h = record { order = a; within = omega (arith, c.within); low = c.low; high = λ k l m. stays mid k l m h }

pub cut_end : (p : ℕ → Bool) (n lo hi : ℕ) → Cut p n lo hi → hi ≤ lo → lo ≡ seek p 0 n
cut_end p n lo hi c h = seek_is p 0 n lo (omega arith) (omega (arith, c.order, c.within)) (λ k a b. c.low k b) (λ l. c.high lo h (omega arith))
