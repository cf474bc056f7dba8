-- The edges as roundings of fine ones, and the place of a rate among them. Each table's rule is one test that is computed. Assumes nothing.
use Rattle.std.proofs.Common.{◌≡◌, ℕ, zero, suc, ◌+◌, ◌-◌, ◌*◌, ◌/◌, ◌%◌, ◌^◌, ◌<◌, ◌≤◌, Bool, true, false, cond, ◌&&◌, eqb, ltb, leb, List, get_or, sym, refl, inl, inr, true≢false, le_refl, le_of_suc-le-suc, eq-or-lt_of_le, arith, pow_mono, ltb-false, ltb-true, le-ltb, lt-ltb, eqb-true, leb-false, leb-true}
use lib.Count.{count_leading_zeros, leading_top}
use Rattle.slices.specs.Every.{every}
use Rattle.slices.specs.Lists.{tabulate}
use Rattle.slices.proofs.Every.{every-at}
use Rattle.slices.proofs.Lists.{tabulate-at}
use Rattle.slices.proofs.Seeking.{seek_is}
use Rattle.rbitcoin_mempool.specs.Edges.{series, edge_at, first_above}
use Rattle.rbitcoin_mempool.specs.Decade.{fine_edge, half_unit, InDecade, Ranked, eighth_start, eighth_end, FiveEdges}
use Rattle.rbitcoin_mempool.proofs.Edges.{edge_mono}

-- ---- the fine edges ascend
fine_test : every (λ j. ltb (fine_edge j) (fine_edge (suc j))) 99 ≡ true
unfolding every fine_edge series
fine_test = refl

pub fine_mono : (i j : ℕ) → i ≤ j → j < 100 → fine_edge i ≤ fine_edge j
fine_mono i zero a b = let e : i ≡ 0 = omega arith in rw e (le_refl (fine_edge 0))
fine_mono i (suc j) a b =
    elim (eq-or-lt_of_le a) [
      | inl e ↦ rw e (le_refl (fine_edge (suc j)))
      | inr l ↦ omega (arith, fine_mono i j (le_of_suc-le-suc l) (omega arith), ltb-true (fine_edge j) (fine_edge (suc j)) (every-at (λ j. ltb (fine_edge j) (fine_edge (suc j))) 99 fine_test j (omega arith)))
    ]

-- ---- each edge is its fine edge, rounded
rounded : ℕ → ℕ → Bool
rounded d j = eqb (edge_at (100 * d + j)) ((fine_edge j + half_unit d) / (2 * half_unit d))

rounded_test : (d : ℕ) → d < 4 → every (rounded d) 100 ≡ true
unfolding every rounded fine_edge edge_at series
rounded_test zero h = refl
rounded_test (suc zero) h = refl
rounded_test (suc (suc zero)) h = refl
rounded_test (suc (suc (suc zero))) h = refl
rounded_test (suc (suc (suc (suc d)))) h = absurd (omega arith)

edge_of : (d j : ℕ) → d < 4 → j < 100 → edge_at (100 * d + j) ≡ (fine_edge j + half_unit d) / (2 * half_unit d)
unfolding rounded
edge_of d j h k = eqb-true _ _ (every-at (rounded d) 100 (rounded_test d h) j k)

-- ---- the rank of y grows edge by edge
pub rank-next : (y m p n e c : ℕ) → m < 100 → p ≡ m + 1 → e ≡ fine_edge m → c ≡ cond (ltb e y) 1 0 → Ranked y m n → Ranked y p (n + c)
rank-next y m p n e c h s f g r = rw s (go (ltb e y) refl)
  where
    upto : e < y → (j : ℕ) → j < m + 1 → fine_edge j < y
    upto l j k = omega (arith, fine_mono j m (omega arith) h)

    past : y ≤ e → (j : ℕ) → n ≤ j → j < m + 1 → y ≤ fine_edge j
    past l j a b =
        let o : j ≤ m = omega arith in
        elim (eq-or-lt_of_le o) [
          | inl q ↦ rw q (omega arith)
          | inr k ↦ r.above j a k
        ]

    all : e < y → n ≡ m
    all l = elim (eq-or-lt_of_le r.within) [
      | inl q ↦ q
      | inr k ↦ absurd (omega (arith, r.above n (le_refl n) k, fine_mono n m r.within h))
    ]

    go : (b : Bool) → ltb e y ≡ b → Ranked y (m + 1) (n + c)
    go true q =
        let l = ltb-true e y q in
        let u : c ≡ 1 = rw q at g in
        let z : n + c ≡ m + 1 = omega (arith, all l) in
        rw z (record { within = le_refl (m + 1); below = upto l; above = λ j a k. absurd (omega arith) })
    go false q =
        let l = ltb-false e y q in
        let u : c ≡ 0 = rw q at g in
        let z : n + c ≡ n = omega arith in
        rw z (record { within = omega (arith, r.within); below = r.below; above = past l })

module _ (k a y : ℕ) (es : List ℕ) (f : FiveEdges k a es) where
  pub rank-start : eighth_start k ≤ y → Ranked y a a
  rank-start h = record { within = le_refl a; below = λ j l. omega (arith, f.low j l); above = λ j l m. absurd (omega arith) }

  -- with one more of the five
  pub rank-more : (i n c : ℕ) → i < 5 → c ≡ cond (ltb (get_or es i 0) y) 1 0 → Ranked y (a + i) n → Ranked y (a + (i + 1)) (n + c)
  rank-more i n c l e r =
      rank-next y (a + i) (a + (i + 1)) n (get_or es i 0) c (omega (arith, f.room)) (omega arith) (rw f.edges (tabulate-at (λ j. fine_edge (a + j)) 0 5 i l)) e r

  pub rank_end : (n : ℕ) → y < eighth_end k → Ranked y (a + 5) n → Ranked y 100 n
  rank_end n h r = record { within = omega (arith, r.within, f.room); below = r.below; above = past }
    where
      past : (j : ℕ) → n ≤ j → j < 100 → y ≤ fine_edge j
      past j l m = go (ltb j (a + 5)) refl
        where
          go : (b : Bool) → ltb j (a + 5) ≡ b → y ≤ fine_edge j
          go true q = r.above j l (ltb-true _ _ q)
          go false q = omega (arith, f.high j (ltb-false j (a + 5) q) m)

-- ---- the rows of five
unfoldable pub low_test : ℕ → ℕ → Bool
low_test k zero = true
low_test k (suc a) = ltb (fine_edge a) (eighth_start k)

unfoldable pub high_test : ℕ → ℕ → Bool
high_test k a = cond (ltb (a + 5) 100) (leb (eighth_end k) (fine_edge (a + 5))) true

-- computed for each row
unfoldable pub row_test : ℕ → ℕ → Bool
row_test k a = leb (a + 5) 100 && (low_test k a && high_test k a)

and : (a b : Bool) → a && b ≡ true → (a ≡ true) × (b ≡ true)
and true b e = (refl, e)
and false b e = absurd (true≢false (sym e))

low_of : (k a : ℕ) → a + 5 ≤ 100 → low_test k a ≡ true → (j : ℕ) → j < a → fine_edge j < eighth_start k
unfolding low_test
low_of k zero h t j l = absurd (omega arith)
low_of k (suc a) h t j l = omega (arith, fine_mono j a (omega arith) (omega arith), ltb-true (fine_edge a) (eighth_start k) t)

high_of : (k a : ℕ) → high_test k a ≡ true → (j : ℕ) → a + 5 ≤ j → j < 100 → eighth_end k ≤ fine_edge j
unfolding high_test
high_of k a t j l m =
    let e = rw (lt-ltb (a + 5) 100 (omega arith)) at t in
    omega (arith, fine_mono (a + 5) j l m, leb-true (eighth_end k) (fine_edge (a + 5)) e)

pub row_holds : (k i a : ℕ) (es : List ℕ) → k ≡ i → es ≡ tabulate (λ j. fine_edge (a + j)) 0 5 → row_test i a ≡ true → FiveEdges k a es
unfolding row_test
row_holds k i a es q e t =
    let t₀ = and _ _ t in
    let t₁ = and _ _ t₀.1 in
    let room = leb-true _ _ t₀.0 in
    rw q (record { room = room; edges = e; low = low_of i a room t₁.0; high = high_of i a t₁.1 })

-- ---- the eighth of y
pub record Eighth (y k : ℕ) : Type 0 where
  pub first : 15 ≤ k
  pub last : k ≤ 41
  pub from : eighth_start k ≤ y
  pub to : y < eighth_end k

eighth-by : (y k q s : ℕ) → q * 2 ^ (15 + s) ≤ y → y < (q + 1) * 2 ^ (15 + s) → 8 ≤ q → q < 16 → k ≡ q + 8 * (s - 1) → 1 ≤ s → 15 ≤ k → k ≤ 41 → Eighth y k
eighth-by y k q s a b l m e p f g =
    let d : k / 8 ≡ s = omega arith in
    let r : k % 8 ≡ q - 8 = omega arith in
    let u : 8 + (q - 8) ≡ q = omega arith in
    let v : 9 + (q - 8) ≡ q + 1 = omega arith in
    record { first = f; last = g; from = rw (d, r, u) a; to = rw (d, r, v) b }

eighth_in : (i y : ℕ) → i ≤ 4 → 2 ^ (19 + i) ≤ y → y < 2 ^ (20 + i) → 1000000 ≤ y → y < 10000000 → Eighth y (y / 2 ^ (16 + i) + 8 * i)
eighth_in zero y h a b l m = eighth-by y _ (y / 65536) 1 (omega arith) (omega arith) (omega arith) (omega arith) (omega arith) (omega arith) (omega arith) (omega arith)
eighth_in (suc zero) y h a b l m = eighth-by y _ (y / 131072) 2 (omega arith) (omega arith) (omega arith) (omega arith) (omega arith) (omega arith) (omega arith) (omega arith)
eighth_in (suc (suc zero)) y h a b l m = eighth-by y _ (y / 262144) 3 (omega arith) (omega arith) (omega arith) (omega arith) (omega arith) (omega arith) (omega arith) (omega arith)
eighth_in (suc (suc (suc zero))) y h a b l m = eighth-by y _ (y / 524288) 4 (omega arith) (omega arith) (omega arith) (omega arith) (omega arith) (omega arith) (omega arith) (omega arith)
eighth_in (suc (suc (suc (suc zero)))) y h a b l m = eighth-by y _ (y / 1048576) 5 (omega arith) (omega arith) (omega arith) (omega arith) (omega arith) (omega arith) (omega arith) (omega arith)
eighth_in (suc (suc (suc (suc (suc i))))) y h a b l m = absurd (omega arith)

-- how many zeros lead y
pub record Leads (y z : ℕ) : Type 0 where
  pub few : z ≤ 44
  pub many : 40 ≤ z
  pub eighth : Eighth y (y / 2 ^ (60 - z) + 8 * (44 - z))

pub leads : (y : ℕ) → 1000000 ≤ y → y < 10000000 → Leads y (count_leading_zeros 64 y)
leads y l m =
    let t = leading_top 64 y (omega arith) (omega arith) in
    let z = count_leading_zeros 64 y in
    let j = t.0 in
    let few : z ≤ 44 = few_of y z j t.1 t.3 l in
    let many : 40 ≤ z = many_of y z j t.1 t.2 m in
    let i = 44 - z in
    let e : 60 - z ≡ 16 + i = omega arith in
    let p : 19 + i ≡ j = omega (arith, t.1) in
    let q : 20 + i ≡ suc j = omega (arith, t.1) in
    record { few = few; many = many; eighth = rw e (eighth_in i y (omega arith) (rw p t.2) (rw q t.3) l m) }
  where
    few_of : (y z j : ℕ) → z + suc j ≡ 64 → y < 2 ^ suc j → 1000000 ≤ y → z ≤ 44
    few_of y z j e h l = go (leb z 44) refl
      where
        go : (b : Bool) → leb z 44 ≡ b → z ≤ 44
        go true q = leb-true _ _ q
        go false q = let s : suc j ≤ 19 = omega (arith, leb-false z 44 q) in absurd (omega (arith, pow_mono s))

    many_of : (y z j : ℕ) → z + suc j ≡ 64 → 2 ^ j ≤ y → y < 10000000 → 40 ≤ z
    many_of y z j e h l = go (leb 40 z) refl
      where
        go : (b : Bool) → leb 40 z ≡ b → 40 ≤ z
        go true q = leb-true _ _ q
        go false q = let s : 24 ≤ j = omega (arith, leb-false 40 z q) in absurd (omega (arith, pow_mono s))

-- ---- the first edge above a rate
pub above_at : (rate n : ℕ) → n ≤ 401 → ((k : ℕ) → k < n → edge_at k ≤ rate) → (n < 401 → rate < edge_at n) → n ≡ first_above rate
unfolding first_above
above_at rate n h f g = seek_is (λ i. ltb rate (edge_at i)) 0 401 n (omega arith) h (λ k a l. le-ltb _ _ (f k l)) (λ l. lt-ltb _ _ (g l))

first_edge : edge_at 0 ≡ 100
unfolding edge_at series
first_edge = refl

pub last_edge : edge_at 400 ≡ 1000000
unfolding edge_at series
last_edge = refl

pub above-none : (rate : ℕ) → rate < 100 → 0 ≡ first_above rate
above-none rate h = above_at rate 0 (omega arith) (λ k l. absurd (omega arith)) (λ l. omega (arith, first_edge))

pub above_all : (rate : ℕ) → 1000000 ≤ rate → 401 ≡ first_above rate
above_all rate h = above_at rate 401 (omega arith) (λ k l. omega (arith, edge_mono k 400 (omega arith) (omega arith), last_edge)) (λ l. absurd (omega arith))

-- the rate in the fine units, and half a unit
abbrev pub fine : ℕ → ℕ → ℕ
fine rate d = (2 * rate + 1) * half_unit d

below-fine : (d f rate e : ℕ) → d < 4 → e ≡ (f + half_unit d) / (2 * half_unit d) → f < fine rate d → e ≤ rate
below-fine zero f rate e h q l = omega arith
below-fine (suc zero) f rate e h q l = omega arith
below-fine (suc (suc zero)) f rate e h q l = omega arith
below-fine (suc (suc (suc d))) f rate e h q l = omega arith

above-fine : (d f rate e : ℕ) → d < 4 → e ≡ (f + half_unit d) / (2 * half_unit d) → fine rate d ≤ f → rate < e
above-fine zero f rate e h q l = omega arith
above-fine (suc zero) f rate e h q l = omega arith
above-fine (suc (suc zero)) f rate e h q l = omega arith
above-fine (suc (suc (suc d))) f rate e h q l = omega arith

-- the edge that ends a decade
end_edge : (d : ℕ) → d < 4 → edge_at (100 * d + 100) ≡ 10 ^ (3 + d)
unfolding edge_at series
end_edge zero h = refl
end_edge (suc zero) h = refl
end_edge (suc (suc zero)) h = refl
end_edge (suc (suc (suc zero))) h = refl
end_edge (suc (suc (suc (suc d)))) h = absurd (omega arith)

-- the fine rate lies in the rows' range
pub fine_range : (rate d : ℕ) → InDecade rate d → (1000000 < fine rate d) × (fine rate d < 10000000)
fine_range rate zero i = (omega (arith, i.from), omega (arith, i.to))
fine_range rate (suc zero) i = (omega (arith, i.from), omega (arith, i.to))
fine_range rate (suc (suc zero)) i = (omega (arith, i.from), omega (arith, i.to))
fine_range rate (suc (suc (suc zero))) i = (omega (arith, i.from), omega (arith, i.to))
fine_range rate (suc (suc (suc (suc d)))) i = absurd (omega (arith, i.known))

module _ (rate d n : ℕ) (i : InDecade rate d) (r : Ranked (fine rate d) 100 n) where
  fine-first : 1 ≤ n
  unfolding fine_edge series
  fine-first = go n r.above
    where
      go : (m : ℕ) → ((j : ℕ) → m ≤ j → j < 100 → fine rate d ≤ fine_edge j) → 1 ≤ m
      go zero f = absurd (omega (arith, f 0 (omega arith) (omega arith), (fine_range rate d i).0))
      go (suc m) f = omega arith

  pub above_ranked : 100 * d + n ≡ first_above rate
  above_ranked = above_at rate (100 * d + n) (omega (arith, i.known, r.within)) lower upper
    where
      lower : (k : ℕ) → k < 100 * d + n → edge_at k ≤ rate
      lower k l =
          let p : n - 1 < 100 = omega (arith, r.within) in
          let e = below-fine d (fine_edge (n - 1)) rate (edge_at (100 * d + (n - 1))) i.known (edge_of d (n - 1) i.known p) (r.below (n - 1) (omega (arith, fine-first))) in
          omega (arith, e, edge_mono k (100 * d + (n - 1)) (omega (arith, fine-first)) (omega (arith, i.known)))

      upper : 100 * d + n < 401 → rate < edge_at (100 * d + n)
      upper l = go (ltb n 100) refl
        where
          go : (b : Bool) → ltb n 100 ≡ b → rate < edge_at (100 * d + n)
          go true q = let p = ltb-true n 100 q in above-fine d (fine_edge n) rate (edge_at (100 * d + n)) i.known (edge_of d n i.known p) (r.above n (le_refl n) p)
          go false q = let p : n ≡ 100 = omega (arith, ltb-false n 100 q, r.within) in rw p (omega (arith, end_edge d i.known, i.to))
