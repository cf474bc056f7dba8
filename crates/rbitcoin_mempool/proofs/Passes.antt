-- The passes over lists as their loops make them, place by place. Assumes nothing.
use Rattle.std.proofs.Common.{◌≡◌, ℕ, zero, suc, ◌+◌, ◌-◌, ◌<◌, ◌≤◌, min, Bool, true, leb, List, [], ◌∷◌, ◌++◌, length, get_or, take, set, sym, refl, ap, ◌∙◌, subst, inl, inr, le_trans, le_refl, le_of_suc-le-suc, not-suc-le-zero, eq-or-lt_of_le, add-one, arith, length-set, get_or-set_other, take-suc, get_or-set_same, ext_get_or, eq-eqb, ne_eqb, le-leb, leb-false, leb-true}
use mathlib.Core.Option.{Option, none, some}
use Rattle.slices.specs.Search.{seek}
use Rattle.slices.proofs.Seeking.{sought}
use Rattle.slices.specs.Lists.{tabulate}
use Rattle.slices.proofs.Every.{every-at}
use Rattle.slices.proofs.Lists.{tabulate-is, tabulate-at, tabulate-length}
use Rattle.rbitcoin_mempool.specs.Rates.{marked, rate_at, rates_of, marks_valid, mark_of, number_or, marks_of, numbers_over}
use Rattle.rbitcoin_mempool.specs.Hold.{no_more, enforce_monotone_desc, hold_defined_then_monotone, never_descends}
use Rattle.rbitcoin_mempool.specs.Target.{unless_later, last_there}
use Rattle.rbitcoin_mempool.specs.Exact.{least, least_so_far}
use Rattle.rbitcoin_mempool.proofs.RateLists.{map_at, map-length}
use Rattle.rbitcoin_mempool.proofs.Runs.{hold-is}

-- ---- the least of the first i, and the running least by it
unfoldable pub up_to : (ℕ → Option ℕ) → ℕ → Option ℕ
up_to f zero = none
up_to f (suc i) = least min (up_to f i) (f i)

-- from a place on, with the least before it
later : (f : ℕ → Option ℕ) (i n : ℕ) → least_so_far min (up_to f i) (tabulate f i n) ≡ tabulate (λ k. up_to f (suc k)) i n
unfolding least_so_far tabulate up_to
later f i zero = refl
later f i (suc n) = ap (λ (l : List (Option ℕ)). up_to f (suc i) ∷ l) (later f (suc i) n)

pub held_at : (ns ms : List ℕ) → hold_defined_then_monotone (rates_of ns ms) ≡ tabulate (λ k. up_to (rate_at ns ms) (suc k)) 0 (length ns)
unfolding rates_of up_to
held_at ns ms = hold-is (tabulate (rate_at ns ms) 0 (length ns)) ∙ later (rate_at ns ms) 0 (length ns)

-- ---- two lists written at i: what P says of the places before i, and of what is written
pub written : (P : ℕ → ℕ → ℕ → Type 0) (xs ys : List ℕ) (i v m : ℕ) → i < length xs → i < length ys → ((k : ℕ) → k < i → P k (get_or xs k 0) (get_or ys k 0)) → P i v m → (k : ℕ) → k < i + 1 → P k (get_or (set xs i v) k 0) (get_or (set ys i m) k 0)
written P xs ys i v m a b h e k l =
    let y : k ≤ i = omega arith in
    elim (eq-or-lt_of_le y) [
      | inl q ↦ subst (λ (z : ℕ). P z (get_or (set xs i v) z 0) (get_or (set ys i m) z 0)) (sym q) (rw (get_or-set_same xs i v 0 a, get_or-set_same ys i m 0 b) e)
      | inr t ↦ rw (get_or-set_other xs i k v 0 (λ q. omega arith), get_or-set_other ys i k m 0 (λ q. omega arith)) (h k t)
    ]

-- ---- the hold pass: places before i are done, the others as they were
pub record Holding (ns ms numbers marks : List ℕ) (best : Option ℕ) (i : ℕ) : Type 0 where
  pub within : i ≤ length ns
  pub numbers-length : length numbers ≡ length ns
  pub marks-length : length marks ≡ length ns
  pub done : (k : ℕ) → k < i → (get_or numbers k 0 ≡ number_or (get_or ns k 0) (up_to (rate_at ns ms) (suc k))) × (get_or marks k 0 ≡ mark_of (up_to (rate_at ns ms) (suc k)))
  pub rest : (k : ℕ) → i ≤ k → (get_or numbers k 0 ≡ get_or ns k 0) × (get_or marks k 0 ≡ get_or ms k 0)
  pub best-is : best ≡ up_to (rate_at ns ms) i

pub hold-start : (ns ms : List ℕ) → length ns ≡ length ms → Holding ns ms ns ms none 0
unfolding up_to
hold-start ns ms e =
    record { within = omega arith; numbers-length = refl; marks-length = sym e; done = λ k l. absurd (not-suc-le-zero l); rest = λ k l. (refl, refl); best-is = refl }

-- no rate is there up to one that is missing too
pub none_up_to : (f : ℕ → Option ℕ) (i : ℕ) → none ≡ up_to f (suc i) → f i ≡ none
unfolding up_to
none_up_to f i e = go (up_to f i) (f i) e
  where
    go : (x y : Option ℕ) → none ≡ least min x y → y ≡ none
    go none y e = sym e
    go (some a) none e = refl
    go (some a) (some b) e = let z : ◌≡◌ {A = ℕ} 0 1 = cc in absurd (omega arith)

module _ (ns ms numbers marks : List ℕ) (best : Option ℕ) (i : ℕ) (h : Holding ns ms numbers marks best i) (l : i < length ns) where
  -- the least with one more
  pub more : (b : Option ℕ) → b ≡ least min best (rate_at numbers marks i) → b ≡ up_to (rate_at ns ms) (suc i)
  unfolding up_to
  more b e = e ∙ rw (← h.best-is, (h.rest i (omega arith)).0, (h.rest i (omega arith)).1)

  -- a rate is written
  pub hold_write : (v : ℕ) → some v ≡ up_to (rate_at ns ms) (suc i) → Holding ns ms (set numbers i v) (set marks i 1) (some v) (i + 1)
  hold_write v e =
      record {
        within = omega arith;
        numbers-length = length-set numbers i v ∙ h.numbers-length;
        marks-length = length-set marks i 1 ∙ h.marks-length;
        done = written (λ (k x y : ℕ). (x ≡ number_or (get_or ns k 0) (up_to (rate_at ns ms) (suc k))) × (y ≡ mark_of (up_to (rate_at ns ms) (suc k)))) numbers marks i v 1 (omega (arith, h.numbers-length)) (omega (arith, h.marks-length)) h.done (ap (number_or (get_or ns i 0)) e, ap mark_of e);
        rest = λ k m. (get_or-set_other numbers i k v 0 (λ q. omega arith) ∙ (h.rest k (omega arith)).0, get_or-set_other marks i k 1 0 (λ q. omega arith) ∙ (h.rest k (omega arith)).1);
        best-is = rw add-one e;
      }

  -- nothing is there yet, and nothing is written
  pub hold_skip : get_or ms i 0 ≤ 1 → none ≡ up_to (rate_at ns ms) (suc i) → Holding ns ms numbers marks none (i + 1)
  hold_skip z e =
      let r = h.rest i (omega arith) in
      let o : get_or ms i 0 ≡ 0 = low (get_or ns i 0) (get_or ms i 0) z (none_up_to (rate_at ns ms) i e) in
      record {
        within = omega arith;
        numbers-length = h.numbers-length;
        marks-length = h.marks-length;
        done = λ k n. let y : k ≤ i = omega arith in elim (eq-or-lt_of_le y) [
          | inl q ↦ subst (λ (x : ℕ). (get_or numbers x 0 ≡ number_or (get_or ns x 0) (up_to (rate_at ns ms) (suc x))) × (get_or marks x 0 ≡ mark_of (up_to (rate_at ns ms) (suc x)))) (sym q)
              (r.0 ∙ ap (number_or (get_or ns i 0)) e, r.1 ∙ o ∙ ap mark_of e)
          | inr t ↦ h.done k t
        ];
        rest = λ k n. h.rest k (omega arith);
        best-is = rw add-one e;
      }
    where
      low : (n a : ℕ) → a ≤ 1 → marked n a ≡ none → a ≡ 0
      low n zero b c = refl
      low n (suc zero) b c = let z : ◌≡◌ {A = ℕ} 0 1 = cc in absurd (omega arith)
      low n (suc (suc a)) b c = absurd (omega arith)

pub hold_end : (ns ms numbers marks : List ℕ) (best : Option ℕ) (i : ℕ) → Holding ns ms numbers marks best i → length ns ≤ i
    → (numbers ≡ numbers_over ns (hold_defined_then_monotone (rates_of ns ms))) × (marks ≡ marks_of (hold_defined_then_monotone (rates_of ns ms)))
unfolding numbers_over
hold_end ns ms numbers marks best i h l =
    let n = length ns in
    let T = tabulate (λ k. up_to (rate_at ns ms) (suc k)) 0 n in
    let e = held_at ns ms in
    let size : length (marks_of T) ≡ n = map-length mark_of T ∙ tabulate-length (λ k. up_to (rate_at ns ms) (suc k)) 0 n in
    rw e (
      tabulate-is (λ k. number_or (get_or ns k 0) (get_or T k none)) 0 n numbers h.numbers-length
          (λ k m. (h.done k (omega arith)).0 ∙ ap (number_or (get_or ns k 0)) (sym (tabulate-at (λ j. up_to (rate_at ns ms) (suc j)) none n k m))),
      ext_get_or 0 marks (marks_of T) (h.marks-length ∙ sym size)
          (λ k m. let q : k < n = omega (arith, h.marks-length) in (h.done k (omega arith)).1 ∙ ap mark_of (sym (tabulate-at (λ j. up_to (rate_at ns ms) (suc j)) none n k q)) ∙ sym (map_at mark_of T none 0 refl k)),
    )

pub mark-at : (ms : List ℕ) (i : ℕ) → marks_valid ms ≡ true → i < length ms → get_or ms i 0 ≤ 1
unfolding marks_valid
mark-at ms i v l = leb-true (get_or ms i 0) 1 (every-at (λ k. leb (get_or ms k 0) 1) (length ms) v i l)

-- ---- `enforce_monotone_desc`
no_more-at : (last : ℕ) (xs : List ℕ) (i : ℕ) → suc i < length xs → get_or (no_more last xs) (suc i) 0 ≡ min (get_or xs (suc i) 0) (get_or (no_more last xs) i 0)
unfolding no_more
no_more-at last [] i l = absurd (not-suc-le-zero l)
no_more-at last (x ∷ []) zero l = absurd (omega arith)
no_more-at last (x ∷ (y ∷ ys)) zero l = refl
no_more-at last (x ∷ xs) (suc i) l = no_more-at (min x last) xs i (le_of_suc-le-suc l)

pub monotone-at : (xs : List ℕ) (i : ℕ) → suc i < length xs → get_or (enforce_monotone_desc xs) (suc i) 0 ≡ min (get_or xs (suc i) 0) (get_or (enforce_monotone_desc xs) i 0)
unfolding enforce_monotone_desc no_more
monotone-at [] i l = absurd (not-suc-le-zero l)
monotone-at (x ∷ []) zero l = absurd (omega arith)
monotone-at (x ∷ (y ∷ ys)) zero l = refl
monotone-at (x ∷ xs) (suc i) l = no_more-at x xs i (le_of_suc-le-suc l)

no_more-length : (last : ℕ) (xs : List ℕ) → length (no_more last xs) ≡ length xs
unfolding no_more
no_more-length last [] = refl
no_more-length last (x ∷ xs) = ap suc (no_more-length (min x last) xs)

monotone-length : (xs : List ℕ) → length (enforce_monotone_desc xs) ≡ length xs
unfolding enforce_monotone_desc
monotone-length [] = refl
monotone-length (x ∷ xs) = ap suc (no_more-length x xs)

monotone-first : (xs : List ℕ) → get_or (enforce_monotone_desc xs) 0 0 ≡ get_or xs 0 0
unfolding enforce_monotone_desc
monotone-first [] = refl
monotone-first (x ∷ xs) = refl

-- places before i are done, the others as they were
pub record Lowering (xs rates : List ℕ) (i : ℕ) : Type 0 where
  pub from : 1 ≤ i
  pub size : length rates ≡ length xs
  pub done : (k : ℕ) → k < i → get_or rates k 0 ≡ get_or (enforce_monotone_desc xs) k 0
  pub rest : (k : ℕ) → i ≤ k → get_or rates k 0 ≡ get_or xs k 0

pub lower-start : (xs : List ℕ) → Lowering xs xs 1
lower-start xs = record { from = omega arith; size = refl; done = λ k l. let e : k ≡ 0 = omega arith in rw e (sym (monotone-first xs)); rest = λ k l. refl }

pub lower-step : (xs rates : List ℕ) (i v : ℕ) → Lowering xs rates i → i < length rates → v ≡ min (get_or rates i 0) (get_or rates (i - 1) 0) → Lowering xs (set rates i v) (i + 1)
lower-step xs rates i v h l e =
    let q : suc (i - 1) ≡ i = omega (arith, h.from) in
    let here : v ≡ get_or (enforce_monotone_desc xs) i 0 =
    e ∙ rw (h.rest i (omega arith), h.done (i - 1) (omega (arith, h.from))) (subst (λ (z : ℕ). min (get_or xs z 0) (get_or (enforce_monotone_desc xs) (i - 1) 0) ≡ get_or (enforce_monotone_desc xs) z 0) q (sym (monotone-at xs (i - 1) (omega (arith, h.size, q))))) in
    record {
      from = omega (arith, h.from);
      size = length-set rates i v ∙ h.size;
      done = λ k m. let y : k ≤ i = omega arith in elim (eq-or-lt_of_le y) [
        | inl z ↦ subst (λ (x : ℕ). get_or (set rates i v) x 0 ≡ get_or (enforce_monotone_desc xs) x 0) (sym z) (get_or-set_same rates i v 0 l ∙ here)
        | inr n ↦ get_or-set_other rates i k v 0 (λ z. omega arith) ∙ h.done k n
      ];
      rest = λ k m. get_or-set_other rates i k v 0 (λ z. omega arith) ∙ h.rest k (omega arith);
    }

pub lower_end : (xs rates : List ℕ) (i : ℕ) → Lowering xs rates i → length rates ≤ i → rates ≡ enforce_monotone_desc xs
lower_end xs rates i h l = ext_get_or 0 rates (enforce_monotone_desc xs) (h.size ∙ sym (monotone-length xs)) (λ k m. h.done k (omega arith))

-- ---- the tests of the lookup, and its scan for the last rate
pub ascending_of : (ds : List ℕ) → never_descends ds ≡ true → (i j : ℕ) → i ≤ j → j < length ds → get_or ds i 0 ≤ get_or ds j 0
unfolding never_descends
ascending_of ds h i zero l m = let e : i ≡ 0 = omega arith in rw e (le_refl (get_or ds 0 0))
ascending_of ds h i (suc j) l m =
    elim (eq-or-lt_of_le l) [
      | inl e ↦ rw e (le_refl (get_or ds (suc j) 0))
      | inr n ↦ le_trans (ascending_of ds h i j (le_of_suc-le-suc n) (omega arith)) (leb-true _ _ (every-at (λ k. leb (get_or ds k 0) (get_or ds (suc k) 0)) (length ds - 1) h j (omega arith)))
    ]

pub reached-stays : (ds : List ℕ) (t : ℕ) → never_descends ds ≡ true → (i j : ℕ) → i ≤ j → j < length ds → leb t (get_or ds i 0) ≡ true → leb t (get_or ds j 0) ≡ true
reached-stays ds t h i j l m e = le-leb _ _ (le_trans (leb-true _ _ e) (ascending_of ds h i j l m))

last_more : (os : List (Option ℕ)) (o : Option ℕ) → last_there (os ++ (o ∷ [])) ≡ unless_later (last_there os) o
unfolding last_there
last_more [] none = refl
last_more [] (some r) = refl
last_more (x ∷ os) o = rw (last_more os o) (go o (last_there os))
  where
    go : (o p : Option ℕ) → unless_later x (unless_later p o) ≡ unless_later (unless_later x p) o
    go none p = refl
    go (some r) p = refl

-- the last rate before i by the one just before it
module _ (ns ms : List ℕ) (i : ℕ) (above : 0 < i) (within : i ≤ length ns) where
  last-at : last_there (take i (rates_of ns ms)) ≡ unless_later (last_there (take (i - 1) (rates_of ns ms))) (rate_at ns ms (i - 1))
  unfolding rates_of
  last-at =
      let os = tabulate (rate_at ns ms) 0 (length ns) in
      let q : i - 1 < length os = omega (arith, tabulate-length (rate_at ns ms) 0 (length ns)) in
      let e : i ≡ suc (i - 1) = omega arith in
      ap (λ n. last_there (take n os)) e ∙ rw (take-suc os (i - 1) none q, tabulate-at (rate_at ns ms) none (length ns) (i - 1) (omega arith)) (last_more (take (i - 1) os) (rate_at ns ms (i - 1)))

  pub last-found : get_or ms (i - 1) 0 ≡ 1 → some (get_or ns (i - 1) 0) ≡ last_there (take i (rates_of ns ms))
  last-found m = sym (last-at ∙ rw (eq-eqb (get_or ms (i - 1) 0) 1 m))

  pub last-missing : (get_or ms (i - 1) 0 ≡ 1 → ⊥) → last_there (take i (rates_of ns ms)) ≡ last_there (take (i - 1) (rates_of ns ms))
  last-missing m = last-at ∙ rw (ne_eqb (get_or ms (i - 1) 0) 1 m)

pub rates-at : (ns ms : List ℕ) (i : ℕ) → i < length ns → get_or (rates_of ns ms) i none ≡ rate_at ns ms i
unfolding rates_of
rates-at ns ms i l = tabulate-at (rate_at ns ms) none (length ns) i l

pub reached-lt : (ds : List ℕ) (t : ℕ) → 0 < length ds → t ≤ get_or ds (length ds - 1) 0 → seek (λ i. leb t (get_or ds i 0)) 0 (length ds) < length ds
reached-lt ds t n l =
    let p : ℕ → Bool = λ k. leb t (get_or ds k 0) in
    let s = sought p 0 (length ds) in
    elim (eq-or-lt_of_le s.to) [
      | inl q ↦ absurd (omega (arith, leb-false t (get_or ds (length ds - 1) 0) (s.before (length ds - 1) (omega arith) (omega arith))))
      | inr m ↦ omega arith
    ]

pub rates-length : (ns ms : List ℕ) → length (rates_of ns ms) ≡ length ns
unfolding rates_of
rates-length ns ms = tabulate-length (rate_at ns ms) 0 (length ns)
