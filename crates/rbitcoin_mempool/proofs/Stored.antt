-- Half of the pairs, in one list of memory: what is stored at a window's place is the window's value. Each operation keeps that. Stated once for both halves. Assumes nothing.
use Rattle.std.proofs.Common.{◌≡◌, ℕ, suc, ◌+◌, ◌-◌, ◌*◌, ◌<◌, ◌≤◌, Bool, true, false, leb, ◌⊎◌, List, [], ◌∷◌, ◌++◌, length, get_or, sym, refl, ap, ◌∙◌, inl, inr, ⊎_elim, eq-or-lt_of_le, arith, length-set, get_or-set_other, get_or-set_same, leb-false, leb-true}
use Rattle.num.specs.Wide.{value}
use Rattle.slices.proofs.Runs.{length_moved, moved-above, moved-below, moved_in}
use Rattle.rbitcoin_mempool.specs.Median.{analog_lookback}
use Rattle.rbitcoin_mempool.specs.Pairs.{ahead_of}
use Rattle.rbitcoin_mempool.specs.Windows.{at, each_target, move_region, new_window, place, put, target_at}
use Rattle.rbitcoin_mempool.specs.declared.fee_analog.history.AnalogHistory.{AnalogHistory}
use Rattle.rbitcoin_mempool.proofs.Parts.{Windowed}
use Rattle.rbitcoin_mempool.proofs.Puts.{ahead-least, put-none, put_some, window-lies}
use Rattle.rbitcoin_mempool.proofs.Regions.{Local, each-done, each-later, each_long, region}

-- at the place of each window of each target stands the window's value
unfoldable pub Holds : {A : Type 0} → (List ℕ → ℕ → ℕ → A) → A → AnalogHistory → List ℕ → List A → Type 0
Holds value z s hs xs =
    (d : ℕ) → d < s.tracked → (t : ℕ) → analog_lookback (target_at s d) ≤ t → t + ahead_of (target_at s d) ≤ s.count
    → get_or xs (place s d t) z ≡ value hs (target_at s d) t

module _ {A : Type 0} (z : A) (c to from n m : ℕ) (xs : List A) (p : to + n ≤ c) (q : from + n ≤ c) (r : m * c ≤ length xs) where
  move-local : Local (move_region c to from n) c m (length xs) z
  move-local =
      record {
        below = λ d ys i h e g. let l : d * c + c ≤ m * c = region d m c h in moved-below ys (d * c + to) (d * c + from) n z (omega arith) (omega arith) i (omega arith);
        above = λ d ys i h e g. let l : d * c + c ≤ m * c = region d m c h in moved-above ys (d * c + to) (d * c + from) n z (omega arith) (omega arith) i (omega arith);
        long = λ d ys h e. let l : d * c + c ≤ m * c = region d m c h in length_moved ys (d * c + to) (d * c + from) n (omega arith) (omega arith) ∙ e;
      }

  -- what was at from in a region is at to
  pub region-moved : (d t : ℕ) → d < m → t < n → get_or (each_target (move_region c to from n) m xs) (d * c + (to + t)) z ≡ get_or xs (d * c + (from + t)) z
  region-moved d t h g =
      let l : d * c + c ≤ m * c = region d m c h in
      let f = move_region {A = A} c to from n in
      let e : length (each_target f d xs) ≡ length xs = each_long f c m z xs move-local d (omega arith) in
      let a : d * c + (to + t) ≡ d * c + to + t = omega arith in
      let b : d * c + (from + t) ≡ d * c + from + t = omega arith in
      each-done f c m z xs move-local d m (d * c + (to + t)) h (omega arith) (omega arith)
      ∙ ap (λ (i : ℕ). get_or (f d (each_target f d xs)) i z) a
      ∙ moved_in (each_target f d xs) (d * c + to) (d * c + from) n z (omega arith) (omega arith) t g
      ∙ ap (λ (i : ℕ). get_or (each_target f d xs) i z) (sym b)
      ∙ each-later f c m z xs move-local d (d * c + (from + t)) (omega arith) (omega arith)

split_by : (a b : ℕ) (t : Bool) → leb a b ≡ t → (a ≤ b) ⊎ (b < a)
split_by a b true e = inl (leb-true a b e)
split_by a b false e = inr (leb-false a b e)

split : (a b : ℕ) → (a ≤ b) ⊎ (b < a)
split a b = split_by a b (leb a b) refl

-- the place of target number d's new pair, and whether there is one
abbrev New : Bool → AnalogHistory → ℕ → ℕ
New newest s d = new_window newest s.count (target_at s d)

abbrev Enough : AnalogHistory → ℕ → Type 0
Enough s d = analog_lookback (target_at s d) + ahead_of (target_at s d) ≤ s.count

module _ {A : Type 0} (value : List ℕ → ℕ → ℕ → A) (z : A) (newest : Bool) (s : AnalogHistory) (hs : List ℕ) where
  put_elsewhere : (d : ℕ) (ys : List A) (i : ℕ) → (Enough s d → i ≡ place s d (New newest s d) → ⊥) → get_or (put value newest s hs d ys) i z ≡ get_or ys i z
  put_elsewhere d ys i h =
      ⊎_elim
      (λ e. ap (λ (l : List A). get_or l i z) (sym (put_some value newest s hs d ys (New newest s d) _ e refl refl)) ∙ get_or-set_other ys (place s d (New newest s d)) i _ z (h e))
      (λ l. ap (λ (l : List A). get_or l i z) (sym (put-none value newest s hs d ys l)))
      (split (analog_lookback (target_at s d) + ahead_of (target_at s d)) s.count)

  put_there : (d : ℕ) (ys : List A) → Enough s d → place s d (New newest s d) < length ys → get_or (put value newest s hs d ys) (place s d (New newest s d)) z ≡ value hs (target_at s d) (New newest s d)
  put_there d ys e h =
      ap (λ (l : List A). get_or l (place s d (New newest s d)) z) (sym (put_some value newest s hs d ys (New newest s d) _ e refl refl))
      ∙ get_or-set_same ys (place s d (New newest s d)) _ z h

  pub put-long : (d : ℕ) (ys : List A) → length (put value newest s hs d ys) ≡ length ys
  put-long d ys =
      ⊎_elim
      (λ e. ap length (sym (put_some value newest s hs d ys (New newest s d) _ e refl refl)) ∙ length-set ys (place s d (New newest s d)) _)
      (λ l. ap length (sym (put-none value newest s hs d ys l)))
      (split (analog_lookback (target_at s d) + ahead_of (target_at s d)) s.count)

  module _ (xs : List A) (q : s.start + s.count ≤ s.capacity) (r : s.tracked * s.capacity ≤ length xs) where
    -- the new place lies in its target's region
    inside : (d : ℕ) → Enough s d → s.start + New newest s d < s.capacity
    inside d e = let w = window-lies newest s.count (target_at s d) e in let l = ahead-least (target_at s d) in omega arith

    put_local : Local (put value newest s hs) s.capacity s.tracked (length xs) z
    put_local =
        record {
          below = λ d ys i h e g. put_elsewhere d ys i (λ u v. omega arith);
          above = λ d ys i h e g. put_elsewhere d ys i (λ u v. let w = inside d u in omega arith);
          long = λ d ys h e. put-long d ys ∙ e;
        }

    pub put-new : (d : ℕ) → d < s.tracked → Enough s d → get_or (each_target (put value newest s hs) s.tracked xs) (place s d (New newest s d)) z ≡ value hs (target_at s d) (New newest s d)
    put-new d k e =
        let l : d * s.capacity + s.capacity ≤ s.tracked * s.capacity = region d s.tracked s.capacity k in
        let w = inside d e in
        let f = put value newest s hs in
        let g : length (each_target f d xs) ≡ length xs = each_long f s.capacity s.tracked z xs put_local d (omega arith) in
        each-done f s.capacity s.tracked z xs put_local d s.tracked (place s d (New newest s d)) k (omega arith) (omega arith)
        ∙ put_there d (each_target f d xs) e (omega arith)

    pub put_old : (d t : ℕ) → d < s.tracked → s.start + t < s.capacity → (t ≡ New newest s d → ⊥) → get_or (each_target (put value newest s hs) s.tracked xs) (place s d t) z ≡ get_or xs (place s d t) z
    put_old d t k w n =
        let f = put value newest s hs in
        each-done f s.capacity s.tracked z xs put_local d s.tracked (place s d t) k (omega arith) (omega arith)
        ∙ put_elsewhere d (each_target f d xs) (place s d t) (λ u v. n (omega arith))
        ∙ each-later f s.capacity s.tracked z xs put_local d (place s d t) (omega arith) (omega arith)

module _ {A : Type 0} (value : List ℕ → ℕ → ℕ → A) (z : A) (s : AnalogHistory) (hs : List ℕ) (xs : List A) where
  pub move_holds : (to : ℕ) → to + s.count ≤ s.capacity → s.start + s.count ≤ s.capacity → s.tracked * s.capacity ≤ length xs
      → Holds value z s hs xs → Holds value z (at s to s.count) hs (each_target (move_region s.capacity to s.start s.count) s.tracked xs)
  unfolding Holds
  move_holds to p q r h d k t a b =
      let l = ahead-least (target_at s d) in
      region-moved z s.capacity to s.start s.count s.tracked xs p q r d t k (omega arith) ∙ h d k t a b

  -- a hurdle x stored after the newest, and the newest pairs put
  pub back_holds : Windowed value → (x : ℕ) → s.start + s.count < s.capacity → s.tracked * s.capacity ≤ length xs → length hs ≡ s.count → Holds value z s hs xs
      → Holds value z (at s s.start (s.count + 1)) (hs ++ (x ∷ [])) (each_target (put value true (at s s.start (s.count + 1)) (hs ++ (x ∷ []))) s.tracked xs)
  unfolding Holds
  back_holds u x q r e h d k t a b =
      let s' = at s s.start (s.count + 1) in
      let hs' = hs ++ (x ∷ []) in
      let l = ahead-least (target_at s d) in
      ⊎_elim
      (λ m. let v : t ≡ New true s' d = omega arith in
      ap (λ (i : ℕ). get_or (each_target (put value true s' hs') s.tracked xs) (place s' d i) z) v
      ∙ put-new value z true s' hs' xs (omega arith) r d k (omega arith)
      ∙ ap (value hs' (target_at s d)) (sym v))
      (λ m. put_old value z true s' hs' xs (omega arith) r d t k (omega arith) (λ v. omega arith)
      ∙ h d k t a (omega arith)
      ∙ sym (u.behind hs x (target_at s d) t a (omega arith)))
      (eq-or-lt_of_le b)

  -- a hurdle x stored before the oldest, and the oldest pairs put
  pub front_holds : Windowed value → (x : ℕ) → 0 < s.start → s.start + s.count ≤ s.capacity → s.tracked * s.capacity ≤ length xs → length hs ≡ s.count → Holds value z s hs xs
      → Holds value z (at s (s.start - 1) (s.count + 1)) (x ∷ hs) (each_target (put value false (at s (s.start - 1) (s.count + 1)) (x ∷ hs)) s.tracked xs)
  unfolding Holds
  front_holds u x o q r y h d k t a b =
      let s' = at s (s.start - 1) (s.count + 1) in
      let l = ahead-least (target_at s d) in
      ⊎_elim
      (λ m. let v : t ≡ New false s' d = sym m in
      ap (λ (i : ℕ). get_or (each_target (put value false s' (x ∷ hs)) s.tracked xs) (place s' d i) z) v
      ∙ put-new value z false s' (x ∷ hs) xs (omega arith) r d k (omega arith)
      ∙ ap (value (x ∷ hs) (target_at s d)) (sym v))
      (λ m. let f : place s' d t ≡ place s d (t - 1) = omega arith in
      let g : t ≡ suc (t - 1) = omega arith in
      put_old value z false s' (x ∷ hs) xs (omega arith) r d t k (omega arith) (λ v. omega arith)
      ∙ ap (λ (i : ℕ). get_or xs i z) f
      ∙ h d k (t - 1) (omega arith) (omega arith)
      ∙ sym (u.before hs x (target_at s d) (t - 1) (omega arith) (omega arith))
      ∙ ap (value (x ∷ hs) (target_at s d)) (sym g))
      (eq-or-lt_of_le a)

  -- the newest hurdle gone, and the oldest
  pub pop-back_holds : Windowed value → (gs : List ℕ) (x : ℕ) → hs ≡ gs ++ (x ∷ []) → length gs ≡ s.count - 1 → 0 < s.count → Holds value z s hs xs
      → Holds value z (at s s.start (s.count - 1)) gs xs
  unfolding Holds
  pop-back_holds u gs x e g o h d k t a b =
      h d k t a (omega arith) ∙ ap (λ (l : List ℕ). value l (target_at s d) t) e ∙ u.behind gs x (target_at s d) t a (omega arith)

  pub pop_front_holds : Windowed value → (gs : List ℕ) (x : ℕ) → hs ≡ x ∷ gs → length gs ≡ s.count - 1 → 0 < s.count → Holds value z s hs xs
      → Holds value z (at s (s.start + 1) (s.count - 1)) gs xs
  unfolding Holds
  pop_front_holds u gs x e y o h d k t a b =
      let f : place (at s (s.start + 1) (s.count - 1)) d t ≡ place s d (suc t) = omega arith in
      ap (λ (i : ℕ). get_or xs i z) f
      ∙ h d k (suc t) (omega arith) (omega arith)
      ∙ ap (λ (l : List ℕ). value l (target_at s d) (suc t)) e
      ∙ u.before gs x (target_at s d) t a (omega arith)
