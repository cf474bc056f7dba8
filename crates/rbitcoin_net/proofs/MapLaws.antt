-- Laws of the map's lists: which operations keep keys ascending, and that a connect's steps drop what stands from its height on. Assumes nothing.
use Prim.Native.Nat.{ℕ, zero, suc, ◌+◌, ◌-◌, ◌^◌, ◌≤◌, ◌<◌}
use mathlib.Core.Path.{◌≡◌, refl, sym, ◌∙◌, ap}
use mathlib.Core.Bool.{Bool, true, false, cond, not, ◌&&◌}
use mathlib.Core.List.{List, [], ◌∷◌, ◌++◌, append-nil}
use mathlib.Core.Option.{Option, none, some}
use native.Mathlib.Omega.{arith}
use lib.Dec.{ltb}
use lib.ListN.{length, drop}
use borrow.Author.Tests.{lt-ltb, le-ltb, le-leb, lt-leb, eq-eqb, ne_eqb, ltb-true, ltb-false}
use Rattle.num.specs.Word.{saturating_sub}
use Rattle.rbitcoin_mempool.specs.Pairs.{pop_back}
use Rattle.rbitcoin_net.specs.declared.fee_history.HistoricalFeeBlock.{HistoricalFeeBlock}
use Rattle.rbitcoin_net.specs.Map.{Entry, entry, Above, Ascends, retain, below, above, onward, get, is_some, remove, insert}
use Rattle.rbitcoin_net.specs.History.{History, set_blocks, set_total, set_hashes, set_hurdles, set_rates, hurdle_of, forget, forget_all, forget_maybe, next, truncate_above, newest}
use Rattle.rbitcoin_net.proofs.Tables.{either}
use Rattle.rbitcoin_net.proofs.CutViews.{without, cut-is}

-- ---- ascending keys

module _ {A : Type 0} where
  above_weak : (j k : ℕ) → j ≤ k → (es : List (Entry A)) → Above k es → Above j es
  above_weak j k l [] x = record {}
  above_weak j k l (e ∷ es) x = (omega (arith, x.0), above_weak j k l es x.1)

  module _ (t : Entry A → Bool) where
    retain-above : (k : ℕ) (es : List (Entry A)) → Above k es → Above k (retain t es)
    unfolding retain
    retain-above k [] x = record {}
    retain-above k (e ∷ es) x = go (t e) (retain-above k es x.1)
      where
        go : (b : Bool) → Above k (retain t es) → Above k (cond b (e ∷ retain t es) (retain t es))
        go true y = (x.0, y)
        go false y = y

    retain-ascends : (es : List (Entry A)) → Ascends es → Ascends (retain t es)
    unfolding retain
    retain-ascends [] x = record {}
    retain-ascends (e ∷ es) x = go (t e) (retain-ascends es x.1)
      where
        go : (b : Bool) → Ascends (retain t es) → Ascends (cond b (e ∷ retain t es) (retain t es))
        go true y = (retain-above e.key es x.0, y)
        go false y = y

  above-above : (k : ℕ) (es : List (Entry A)) → Above k (above k es)
  unfolding above retain
  above-above k [] = record {}
  above-above k (e ∷ es) = go (ltb k e.key) refl (above-above k es)
    where
      go : (b : Bool) → ltb k e.key ≡ b → Above k (above k es) → Above k (cond b (e ∷ above k es) (above k es))
      go true u y = (ltb-true k e.key u, y)
      go false u y = y

  -- entries below a key, before one of that key and more above it
  above_append : (k : ℕ) (xs ys : List (Entry A)) → Above k xs → Above k ys → Above k (xs ++ ys)
  above_append k [] ys x y = y
  above_append k (e ∷ xs) ys x y = (x.0, above_append k xs ys x.1 y)

  joined : (h : ℕ) (v : A) (es ys : List (Entry A)) → Ascends es → Above h ys → Ascends ys → Ascends (below h es ++ entry h v ∷ ys)
  unfolding below retain
  joined h v [] ys x y z = (y, z)
  joined h v (e ∷ es) ys x y z = go (ltb e.key h) refl (joined h v es ys x.1 y z)
    where
      go : (b : Bool) → ltb e.key h ≡ b → Ascends (below h es ++ entry h v ∷ ys) → Ascends (cond b (e ∷ below h es) (below h es) ++ entry h v ∷ ys)
      go true u w =
          let l : e.key < h = ltb-true e.key h u in
          (above_append e.key (below h es) (entry h v ∷ ys) (retain-above (λ f. ltb f.key h) e.key es x.0) (l, above_weak e.key h (omega arith) ys y), w)
      go false u w = w

  pub insert-ascends : (h : ℕ) (v : A) (es : List (Entry A)) → Ascends es → Ascends (insert h v es)
  unfolding insert above
  insert-ascends h v es x = joined h v es (above h es) x (above-above h es) (retain-ascends (λ e. ltb h e.key) es x)

  drop-ascends : (n : ℕ) (es : List (Entry A)) → Ascends es → Ascends (drop n es)
  drop-ascends zero es x = x
  drop-ascends (suc n) [] x = record {}
  drop-ascends (suc n) (e ∷ es) x = drop-ascends n es x.1

  pub newest-ascends : (es : List (Entry A)) → Ascends es → Ascends (newest es)
  unfolding newest
  newest-ascends es x = drop-ascends (length es - 144) es x

  -- ---- what is left of a height

  below-below : (h k : ℕ) → h ≤ k → (es : List (Entry A)) → below h (below k es) ≡ below h es
  unfolding below retain
  below-below h k l [] = refl
  below-below h k l (e ∷ es) = go (ltb e.key k) refl (ltb e.key h) refl (below-below h k l es)
    where
      go : (b : Bool) → ltb e.key k ≡ b → (c : Bool) → ltb e.key h ≡ c → below h (below k es) ≡ below h es
          → below h (cond b (e ∷ below k es) (below k es)) ≡ cond c (e ∷ below h es) (below h es)
      go true u true v i = rw v (ap (λ l. e ∷ l) i)
      go true u false v i = rw v i
      go false u true v i = let a = ltb-false e.key k u in let b = ltb-true e.key h v in absurd (let f : ⊥ = omega arith in f)
      go false u false v i = i

  above-below : (h k : ℕ) → k ≤ h + 1 → (es : List (Entry A)) → above h (below k es) ≡ []
  unfolding above below retain
  above-below h k l [] = refl
  above-below h k l (e ∷ es) = go (ltb e.key k) refl (above-below h k l es)
    where
      go : (b : Bool) → ltb e.key k ≡ b → above h (below k es) ≡ [] → above h (cond b (e ∷ below k es) (below k es)) ≡ []
      go true u i = let a = ltb-true e.key k u in rw (le-ltb h e.key (omega arith)) i
      go false u i = i

  pub remove-below : (h k : ℕ) → h ≤ k → k ≤ h + 1 → (es : List (Entry A)) → remove h (below k es) ≡ below h es
  unfolding remove
  remove-below h k l m es = (λ j. below-below h k l es j ++ above-below h k m es j) ∙ append-nil (below h es)

  pub get-below : (h : ℕ) (es : List (Entry A)) → get h (below h es) ≡ none
  unfolding get below retain
  get-below h [] = refl
  get-below h (e ∷ es) = go (ltb e.key h) refl (get-below h es)
    where
      go : (b : Bool) → ltb e.key h ≡ b → get h (below h es) ≡ none → get h (cond b (e ∷ below h es) (below h es)) ≡ none
      go true u i = let a = ltb-true e.key h u in rw (ne_eqb e.key h (λ q. omega arith)) i
      go false u i = i

  -- of entries above a key none is below the next, and all stand from it on
  below_none : (k j : ℕ) → j ≤ k + 1 → (es : List (Entry A)) → Above k es → below j es ≡ []
  unfolding below retain
  below_none k j l [] x = refl
  below_none k j l (e ∷ es) x = rw (le-ltb e.key j (omega (arith, x.0))) (below_none k j l es x.1)

  onward_all : (k j : ℕ) → j ≤ k + 1 → (es : List (Entry A)) → Above k es → onward j es ≡ es
  unfolding onward retain
  onward_all k j l [] x = refl
  onward_all k j l (e ∷ es) x = rw (le-leb j e.key (omega (arith, x.0))) (ap (λ r. e ∷ r) (onward_all k j l es x.1))

-- ---- forgotten blocks in any order

module _ (pop : List ℕ → List ℕ) where
  sub-swap : (t a b : ℕ) → saturating_sub (saturating_sub t a) b ≡ saturating_sub (saturating_sub t b) a
  sub-swap t a b = omega arith

  pop-swap : (p q : Bool) (hs : List ℕ) → cond p (pop (cond q (pop hs) hs)) (cond q (pop hs) hs) ≡ cond q (pop (cond p (pop hs) hs)) (cond p (pop hs) hs)
  pop-swap true true hs = refl
  pop-swap true false hs = refl
  pop-swap false true hs = refl
  pop-swap false false hs = refl

  forget-swap : (a b : HistoricalFeeBlock) (x : History) → forget pop a (forget pop b x) ≡ forget pop b (forget pop a x)
  unfolding forget
  forget-swap a b x = λ i. set_hurdles (pop-swap (is_some (hurdle_of a) && not x.stale) (is_some (hurdle_of b) && not x.stale) x.hurdles i) (set_total (sub-swap x.total b.txstat_bytes a.txstat_bytes i) x)

  forgets-swap : (es : List (Entry HistoricalFeeBlock)) (a : HistoricalFeeBlock) (x : History) → forget_all pop es (forget pop a x) ≡ forget pop a (forget_all pop es x)
  unfolding forget_all
  forgets-swap [] a x = refl
  forgets-swap (e ∷ es) a x = ap (forget_all pop es) (forget-swap e.value a x) ∙ forgets-swap es a (forget pop e.value x)

  -- the blocks above a height, and then the one of the height, are those from it on
  height-forgotten : (h : ℕ) (es : List (Entry HistoricalFeeBlock)) (x : History) → Ascends es → forget_maybe pop (get h (below (h + 1) es)) (forget_all pop (onward (h + 1) es) x) ≡ forget_all pop (onward h es) x
  unfolding get below onward retain forget_all
  height-forgotten h [] x asc = refl
  height-forgotten h (e ∷ es) x asc =
      either e.key h
      (λ l. rw (lt-ltb e.key (h + 1) (omega arith), lt-leb (h + 1) e.key (omega arith), lt-leb h e.key l, ne_eqb e.key h (λ q. omega arith)) (height-forgotten h es x asc.1))
      (λ l. either h e.key
      (λ m. all_above (m, above_weak h e.key l es asc.0))
      (λ m. at-height (let q : e.key ≡ h = omega arith in q) (above_weak h e.key l es asc.0)))
    where
      all_above : Above h (e ∷ es) → forget_maybe pop (get h (below (h + 1) (e ∷ es))) (forget_all pop (onward (h + 1) (e ∷ es)) x) ≡ forget_all pop (onward h (e ∷ es)) x
      all_above y =
          (λ i. forget_maybe pop (get h (below_none h (h + 1) (omega arith) (e ∷ es) y i)) (forget_all pop (onward_all h (h + 1) (omega arith) (e ∷ es) y i) x))
          ∙ sym (ap (λ (l : List (Entry HistoricalFeeBlock)). forget_all pop l x) (onward_all h h (omega arith) (e ∷ es) y))

      at-height : e.key ≡ h → Above h es → forget_maybe pop (get h (below (h + 1) (e ∷ es))) (forget_all pop (onward (h + 1) (e ∷ es)) x) ≡ forget_all pop (onward h (e ∷ es)) x
      at-height q y =
          let b : below (h + 1) (e ∷ es) ≡ e ∷ [] = rw (lt-ltb e.key (h + 1) (omega arith)) (ap (λ l. e ∷ l) (below_none h (h + 1) (omega arith) es y)) in
          let g : get h (e ∷ []) ≡ some e.value = rw (eq-eqb e.key h q) in
          let o : onward (h + 1) (e ∷ es) ≡ es = rw (lt-leb (h + 1) e.key (omega arith)) (onward_all h (h + 1) (omega arith) es y) in
          let p : onward h (e ∷ es) ≡ e ∷ es = rw (le-leb h e.key (omega arith)) (ap (λ l. e ∷ l) (onward_all h h (omega arith) es y)) in
          (λ i. forget_maybe pop ((ap (get h) b ∙ g) i) (forget_all pop (o i) x))
          ∙ sym (forgets-swap es e.value x)
          ∙ sym (ap (λ (l : List (Entry HistoricalFeeBlock)). forget_all pop l x) p)

  maybe_sets : (o : Option HistoricalFeeBlock) (bs cs : List (Entry HistoricalFeeBlock)) (zs : List (Entry (List ℕ))) (x : History)
      → forget_maybe pop o (set_blocks bs (set_hashes zs (set_blocks cs (set_rates none x)))) ≡ set_hashes zs (set_blocks bs (set_rates none (forget_maybe pop o x)))
  unfolding forget
  maybe_sets none bs cs zs x = refl
  maybe_sets (some b) bs cs zs x = refl

-- ---- the first lines of `insert`

-- a connect's first steps: `truncate_above`, then the height itself removed from the blocks and from the hashes
abbrev pub cleared : ℕ → History → History
cleared h x =
    let y = truncate_above h x in
    let z = forget_maybe pop_back (get h y.blocks) (set_blocks (remove h y.blocks) y) in
    set_hashes (remove h z.hashes) z

abbrev Dropped : ℕ → ℕ → List (Entry HistoricalFeeBlock) → History → Type 0
Dropped h k es x = forget_maybe pop_back (get h (below k es)) (forget_all pop_back (onward k es) x) ≡ forget_all pop_back (onward h es) x

next-dropped : (h : ℕ) → h < 2 ^ 32 → (es : List (Entry HistoricalFeeBlock)) (x : History) → Ascends es → (h ≤ next h) × (next h ≤ h + 1) × Dropped h (next h) es x
unfolding next
next-dropped h l es x asc =
    either (h + 1) (2 ^ 32)
    (λ m.
    let e : next h ≡ h + 1 = omega arith in
    rw e (omega arith, omega arith, height-forgotten pop_back h es x asc))
    (λ m.
    let e : next h ≡ h = omega arith in
    rw e (omega arith, omega arith, ap (λ (o : Option HistoricalFeeBlock). forget_maybe pop_back o (forget_all pop_back (onward h es) x)) (get-below h es)))

pub connect_clears : (h : ℕ) → h < 2 ^ 32 → (x : History) → Ascends x.blocks → cleared h x ≡ without h x
connect_clears h l x asc =
    let k = next h in
    let d = next-dropped h l x.blocks x asc in
    let F : History → History = λ y. (let z = forget_maybe pop_back (get h y.blocks) (set_blocks (remove h y.blocks) y) in set_hashes (remove h z.hashes) z) in
    ap F (cut-is h x)
    ∙ ap (λ (z : History). set_hashes (remove h z.hashes) z) (maybe_sets pop_back (get h (below k x.blocks)) (remove h (below k x.blocks)) (below k x.blocks) (below k x.hashes) (forget_all pop_back (onward k x.blocks) x))
    ∙ (λ i. set_hashes (remove-below h k d.0 d.1 x.hashes i) (set_blocks (remove-below h k d.0 d.1 x.blocks i) (set_rates none (d.2 i))))
