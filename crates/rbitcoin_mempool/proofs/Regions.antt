-- Laws of the targets' regions: where they lie, and what a pass over them leaves in each. Assumes nothing.
use Rattle.std.proofs.Common.{◌≡◌, ℕ, zero, suc, ◌+◌, ◌*◌, ◌<◌, ◌≤◌, List, length, get_or, sym, refl, ap, ◌∙◌, ⊎_elim, mul-le-mul_right, eq-or-lt_of_le, add-one, arith}
use Rattle.rbitcoin_mempool.specs.Windows.{each_target}
use Rattle.rbitcoin_mempool.proofs.Refusals.{places-fit}

-- region d lies before the regions end, and within a million places
pub region : (d t c : ℕ) → d < t → d * c + c ≤ t * c
region d t c h = let g : suc d * c ≤ t * c = mul-le-mul_right c h in omega arith

pub region-fits : (d t c : ℕ) → d < t → t ≤ 16 → c ≤ 65536 → d * c + c ≤ 1048576
region-fits d t c h p q = omega (arith, region d t c h, places-fit t c p q)

module _ {A : Type 0} (f : ℕ → List A → List A) where
  pub each_none : (xs : List A) → xs ≡ each_target f 0 xs
  unfolding each_target
  each_none xs = refl

  pub each_more : (ys zs xs : List A) (d : ℕ) → ys ≡ each_target f d xs → zs ≡ f d ys → zs ≡ each_target f (d + 1) xs
  unfolding each_target
  each_more ys zs xs d e g = g ∙ ap (f d) e ∙ ap (λ (n : ℕ). each_target f n xs) (sym (add-one d))

-- f's step d changes region d alone, and no length
pub record Local {A : Type 0} (f : ℕ → List A → List A) (c n l : ℕ) (z : A) : Type 0 where
  pub below : (d : ℕ) (ys : List A) (i : ℕ) → d < n → length ys ≡ l → i < d * c → get_or (f d ys) i z ≡ get_or ys i z
  pub above : (d : ℕ) (ys : List A) (i : ℕ) → d < n → length ys ≡ l → d * c + c ≤ i → get_or (f d ys) i z ≡ get_or ys i z
  pub long : (d : ℕ) (ys : List A) → d < n → length ys ≡ l → length (f d ys) ≡ l

module _ {A : Type 0} (f : ℕ → List A → List A) (c n : ℕ) (z : A) (xs : List A) (o : Local f c n (length xs) z) where
  pub each_long : (m : ℕ) → m ≤ n → length (each_target f m xs) ≡ length xs
  unfolding each_target
  each_long zero h = refl
  each_long (suc m) h = o.long m (each_target f m xs) h (each_long m (omega arith))

  -- a region that is still to come
  pub each-later : (m i : ℕ) → m ≤ n → m * c ≤ i → get_or (each_target f m xs) i z ≡ get_or xs i z
  unfolding each_target
  each-later zero i h g = refl
  each-later (suc m) i h g =
      let p : m * c + c ≤ i = omega arith in
      o.above m (each_target f m xs) i h (each_long m (omega arith)) p ∙ each-later m i (omega arith) (omega arith)

  -- a region that is done
  pub each-done : (d m i : ℕ) → d < m → m ≤ n → i < d * c + c → get_or (each_target f m xs) i z ≡ get_or (f d (each_target f d xs)) i z
  unfolding each_target
  each-done d zero i p h g = absurd (let b : ⊥ = omega arith in b)
  each-done d (suc m) i p h g =
      ⊎_elim
      (λ e. ap (λ (k : ℕ). get_or (f k (each_target f k xs)) i z) (sym e))
      (λ q. o.below m (each_target f m xs) i h (each_long m (omega arith)) (omega (arith, region d m c q)) ∙ each-done d m i q (omega arith) g)
      (eq-or-lt_of_le (let u : d ≤ m = omega arith in u))
