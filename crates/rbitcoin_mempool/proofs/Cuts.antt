-- The nearest pairs are those nearer than the cut, the m-th least distance, and the oldest of those at it. Assumes nothing.
use Rattle.std.proofs.Common.{◌≡◌, ℕ, zero, suc, ◌+◌, ◌-◌, ◌<◌, ◌≤◌, eqb, ltb, leb, ◌⊎◌, List, [], ◌∷◌, ◌++◌, length, get_or, take, drop, set, sym, refl, ap, ◌∙◌, append_assoc, append-nil, zero-le, add-one, arith, length-drop, length-set, drop_of_length-le, take_all, drop-cons, take-suc-set, le-ltb, lt-ltb, eq-eqb, ne_eqb, leb-true}
use native.Mathlib.Decide.{dec_le, ℕ_discrete}
use Rattle.slices.specs.Sorted.{at_most, below, equal, sorted, tally}
use Rattle.slices.proofs.Sorting.{kth-at_most, reached, sorted-ascending, sorted-length, sorted-same}
use Rattle.slices.proofs.Tallies.{at_most-split, below_suc, none_below, take_no, take-yes, tally_mono, tally-take}
use Rattle.rbitcoin_mempool.specs.Nearest.{Cut, nearer, nearest, nearest_from}

-- ---- the cut: fewer than m are below it, and m at the least are not above it
few-below : (xs : List ℕ) (k v : ℕ) → get_or (sorted xs) k 0 ≡ v → below v xs ≤ k
unfolding tally
few-below xs k zero e = rw (none_below xs) zero-le
few-below xs k (suc v) e = go (dec_le (below (suc v) xs) k)
  where
    go : Dec (below (suc v) xs ≤ k) → below (suc v) xs ≤ k
    go (yes h) = h
    go (no n) = absurd (omega (arith, kth-at_most xs k v (omega (arith, below_suc v xs)), e, n))

pub cut_at : (m : ℕ) (ds : List ℕ) (cut : ℕ) → 0 < m → m ≤ length ds → cut ≡ get_or (sorted ds) (m - 1) 0 → Cut m ds cut
cut_at m ds cut p l e =
    record {
      few = omega (arith, few-below ds (m - 1) cut (sym e));
      many = omega (arith, at_most-split cut ds, sorted-same ds (λ x. leb x cut), more);
    }
  where
    more : m - 1 < at_most cut (sorted ds)
    more = reached cut (sorted ds) (m - 1) (sorted-ascending ds) (omega (arith, sorted-length ds)) (omega (arith, e))

module _ (m : ℕ) (ds : List ℕ) (cut i : ℕ) (k : Cut m ds cut) where
  near : get_or ds i 0 < cut → nearer ds i < m
  near h =
      let d = get_or ds i 0 in
      omega (
        arith,
        k.few,
        tally-take (λ x. eqb x d) ds i,
        at_most-split d ds,
        tally_mono (λ x. leb x d) (λ x. ltb x cut) ds (λ x e. lt-ltb x cut (omega (arith, leb-true x d e))),
      )

  far : cut < get_or ds i 0 → m ≤ nearer ds i
  far h =
      let d = get_or ds i 0 in
      omega (
        arith,
        k.many,
        at_most-split cut ds,
        tally_mono (λ x. leb x cut) (λ x. ltb x d) ds (λ x e. lt-ltb x d (omega (arith, leb-true x cut e))),
      )

  level : get_or ds i 0 ≡ cut → nearer ds i ≡ below cut ds + equal cut (take i ds)
  level e = ap (λ d. below d ds + equal d (take i ds)) e

-- ---- after i places: n outcomes stand in front, and `left` more are wanted of those at the cut
pub record Collecting (m : ℕ) (ds vs : List ℕ) (cut : ℕ) (out : List ℕ) (left n i : ℕ) : Type 0 where
  pub within : i ≤ length ds
  pub count : n + left ≡ below cut (take i ds) + (m - below cut ds)
  pub spare : left ≡ (m - below cut ds) - equal cut (take i ds)
  pub done : take n out ++ nearest_from m ds i (drop i vs) ≡ nearest m ds vs
  pub size : length out ≡ m

module _ (m : ℕ) (ds vs : List ℕ) (i : ℕ) (r : i < length vs) where
  from_taken : nearer ds i < m → nearest_from m ds i (drop i vs) ≡ get_or vs i 0 ∷ nearest_from m ds (i + 1) (drop (i + 1) vs)
  unfolding nearest_from
  from_taken h = rw (add-one, drop-cons vs i 0 r, lt-ltb (nearer ds i) m h)

  from-passed : m ≤ nearer ds i → nearest_from m ds i (drop i vs) ≡ nearest_from m ds (i + 1) (drop (i + 1) vs)
  unfolding nearest_from
  from-passed h = rw (add-one, drop-cons vs i 0 r, le-ltb (nearer ds i) m h)

module _ (m : ℕ) (ds vs : List ℕ) (cut : ℕ) (out : List ℕ) (left n i : ℕ)
    (k : Cut m ds cut) (c : Collecting m ds vs cut out left n i) (s : length ds ≡ length vs) (r : i < length ds) where
  rv : i < length vs
  rv = omega arith

  -- one more outcome in front
  front : n < length out → nearer ds i < m → take (n + 1) (set out n (get_or vs i 0)) ++ nearest_from m ds (i + 1) (drop (i + 1) vs) ≡ nearest m ds vs
  front f h =
      rw (add-one n, take-suc-set out n (get_or vs i 0) f)
      (append_assoc (take n out) (get_or vs i 0 ∷ []) _ ∙ ap (λ l. take n out ++ l) (sym (from_taken m ds vs i rv h)) ∙ c.done)

  pub room-below : get_or ds i 0 < cut → n < length out
  room-below h = omega (arith, c.size, k.few, take-yes (λ x. ltb x cut) ds i r (lt-ltb _ _ h), tally-take (λ x. ltb x cut) ds (i + 1))

  pub room_level : 0 < left → n < length out
  room_level h = omega (arith, c.size, k.few, tally-take (λ x. ltb x cut) ds i)

  pub collect-below : get_or ds i 0 < cut → Collecting m ds vs cut (set out n (get_or vs i 0)) left (n + 1) (i + 1)
  collect-below h =
      record {
        within = omega arith;
        count = omega (arith, c.count, take-yes (λ x. ltb x cut) ds i r (lt-ltb _ _ h));
        spare = omega (arith, c.spare, take_no (λ x. eqb x cut) ds i r (ne_eqb (get_or ds i 0) cut (λ e. omega arith)));
        done = front (room-below h) (near m ds cut i k h);
        size = length-set out n _ ∙ c.size;
      }

  pub collect_level : get_or ds i 0 ≡ cut → 0 < left → Collecting m ds vs cut (set out n (get_or vs i 0)) (left - 1) (n + 1) (i + 1)
  collect_level e h =
      record {
        within = omega arith;
        count = omega (arith, c.count, take_no (λ x. ltb x cut) ds i r (le-ltb (get_or ds i 0) cut (omega arith)));
        spare = omega (arith, c.spare, take-yes (λ x. eqb x cut) ds i r (eq-eqb _ _ e));
        done = front (room_level h) (omega (arith, c.spare, level m ds cut i k e));
        size = length-set out n _ ∙ c.size;
      }

  pub pass_level : get_or ds i 0 ≡ cut → left ≤ 0 → Collecting m ds vs cut out left n (i + 1)
  pass_level e h =
      record {
        within = omega arith;
        count = omega (arith, c.count, take_no (λ x. ltb x cut) ds i r (le-ltb (get_or ds i 0) cut (omega arith)));
        spare = omega (arith, c.spare, take-yes (λ x. eqb x cut) ds i r (eq-eqb _ _ e));
        done = ap (λ l. take n out ++ l) (sym (from-passed m ds vs i rv (omega (arith, c.spare, k.few, level m ds cut i k e)))) ∙ c.done;
        size = c.size;
      }

  pub pass_far : cut < get_or ds i 0 → Collecting m ds vs cut out left n (i + 1)
  pass_far h =
      record {
        within = omega arith;
        count = omega (arith, c.count, take_no (λ x. ltb x cut) ds i r (le-ltb (get_or ds i 0) cut (omega arith)));
        spare = omega (arith, c.spare, take_no (λ x. eqb x cut) ds i r (ne_eqb (get_or ds i 0) cut (λ e. omega arith)));
        done = ap (λ l. take n out ++ l) (sym (from-passed m ds vs i rv (far m ds cut i k h))) ∙ c.done;
        size = c.size;
      }

-- ---- the same, where the distances `es` and the outcomes `ws` are still to come
pub record Left (m : ℕ) (ds vs : List ℕ) (cut : ℕ) (es ws out : List ℕ) (left n : ℕ) : Type 0 where
  pub i : ℕ
  pub distances : es ≡ drop i ds
  pub outcomes : ws ≡ drop i vs
  pub so_far : Collecting m ds vs cut out left n i

pub left_start : (ds es vs ws : List ℕ) (cut : ℕ) (out : List ℕ) (left : ℕ) → es ≡ ds → ws ≡ vs → left ≡ length out - below cut ds → Left (length out) ds vs cut es ws out left 0
unfolding tally
left_start ds es vs ws cut out left p q e =
    record { i = 0; distances = p; outcomes = q; so_far = record { within = zero-le; count = omega arith; spare = omega arith; done = refl; size = refl } }

-- what is next of a list from place i on
next_is : (xs ys : List ℕ) (x i : ℕ) → x ∷ ys ≡ drop i xs → (i < length xs) × (get_or xs i 0 ≡ x) × (ys ≡ drop (i + 1) xs)
next_is [] ys x zero e = absurd (cc)
next_is [] ys x (suc i) e = absurd (cc)
next_is (z ∷ xs) ys x zero e = (omega arith, cc, cc)
next_is (z ∷ xs) ys x (suc i) e = let h = next_is xs ys x i e in let e : suc i + 1 ≡ suc (i + 1) = omega arith in (omega (arith, h.0), h.1, rw e h.2)

module _ {m : ℕ} {ds vs : List ℕ} {cut : ℕ} {es es' ws ws' out : List ℕ} {d v left n : ℕ}
    (k : Cut m ds cut) (s : length ds ≡ length vs) (l : Left m ds vs cut es ws out left n) (p : es ≡ d ∷ es') (q : ws ≡ v ∷ ws') where
  here : (l.i < length ds) × (get_or ds l.i 0 ≡ d) × (es' ≡ drop (l.i + 1) ds)
  here = next_is ds es' d l.i (sym p ∙ l.distances)

  there : (l.i < length vs) × (get_or vs l.i 0 ≡ v) × (ws' ≡ drop (l.i + 1) vs)
  there = next_is vs ws' v l.i (sym q ∙ l.outcomes)

  more : (out' : List ℕ) (left' n' : ℕ) → Collecting m ds vs cut out' left' n' (l.i + 1) → Left m ds vs cut es' ws' out' left' n'
  more out' left' n' c = record { i = l.i + 1; distances = here.2; outcomes = there.2; so_far = c }

  pub below_room : d < cut → n < length out
  below_room h = room-below m ds vs cut out left n l.i k l.so_far s here.0 (rw here.1 h)

  pub level_room : 0 < left → n < length out
  level_room h = room_level m ds vs cut out left n l.i k l.so_far s here.0 h

  pub take-below : d < cut → Left m ds vs cut es' ws' (set out n v) left (n + 1)
  take-below h = rw (← there.1) (more _ _ _ (collect-below m ds vs cut out left n l.i k l.so_far s here.0 (rw here.1 h)))

  pub take_level : d ≡ cut → 0 < left → Left m ds vs cut es' ws' (set out n v) (left - 1) (n + 1)
  take_level e h = rw (← there.1) (more _ _ _ (collect_level m ds vs cut out left n l.i k l.so_far s here.0 (here.1 ∙ e) h))

  pub leave : (d < cut → ⊥) → (d ≡ cut → left ≤ 0) → Left m ds vs cut es' ws' out left n
  leave a b = go (ℕ_discrete d cut)
    where
      go : Dec (d ≡ cut) → Left m ds vs cut es' ws' out left n
      go (yes e) = more _ _ _ (pass_level m ds vs cut out left n l.i k l.so_far s here.0 (here.1 ∙ e) (b e))
      go (no f) = more _ _ _ (pass_far m ds vs cut out left n l.i k l.so_far s here.0 (rw here.1 (omega arith)))

pub left_end : {m : ℕ} {ds vs : List ℕ} {cut : ℕ} {es ws out : List ℕ} {left n : ℕ} → Cut m ds cut → length ds ≡ length vs → Left m ds vs cut es ws out left n → (length es ≡ 0) ⊎ (length ws ≡ 0) → out ≡ nearest m ds vs
unfolding nearest_from
left_end {m} {ds} {vs} {cut} {es} {ws} {out} {left} {n} k s l e =
    let c = l.so_far in
    let i = l.i in
    let a : length es ≡ length ds - i = ap length l.distances ∙ length-drop i ds in
    let b : length ws ≡ length vs - i = ap length l.outcomes ∙ length-drop i vs in
    let h : length ds ≤ i = grind arith in
    let whole : take i ds ≡ ds = take_all i ds h in
    let none : drop i vs ≡ [] = drop_of_length-le vs {i = i} (omega arith) in
    let all : n ≡ m = omega (arith, k.few, k.many, rw whole at c.count, rw whole at c.spare) in
    sym (take_all n out (omega (arith, c.size)))
    ∙ sym (append-nil (take n out)) ∙ sym (ap (λ l. take n out ++ nearest_from m ds i l) none) ∙ c.done
