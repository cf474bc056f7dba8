-- The fee flow meter: its rates at the opening, what a decay does to one number, the least time of a sample, and the bucket of an admission. Assumes nothing.
use Rattle.std.proofs.Common.{◌≡◌, ℕ, zero, suc, ◌+◌, ◌-◌, ◌*◌, ◌<◌, ◌≤◌, Bool, true, false, cond, ◌&&◌, ◌||◌, eqb, ltb, get_or, sym, refl, ap, ◌∙◌, true≢false, arith, ltb-true, le-ltb, eqb-true, ne_eqb, map}
use lib.ListN.{get_or-replicate}
use lib.Ieee.{Float, nan, inf, fin, binary64, up, down, mul, lt, eq, le, is_nan, round, of_int}
use lib.Ieee.Fits.{down_pos}
use Rattle.num.specs.Float.{of_u64, max_of}
use Rattle.slices.specs.Search.{seek}
use Rattle.rbitcoin_mempool.specs.Edges.{edge_at, first_above, bucket_index}
use Rattle.rbitcoin_mempool.specs.Meter.{least_secs, gap, share_left, decayed, new_meter, decay_to}
use Rattle.rbitcoin_mempool.specs.declared.fee_flow.FeeFlowMeter.{FeeFlowMeter}
use Rattle.rbitcoin_mempool.proofs.Maps.{map_same}

-- every rate of a new meter is 0
pub new_meter-zero : (now k : ℕ) → k < 402 → get_or (new_meter now).admit_wu_s k nan ≡ of_u64 0
new_meter-zero now k h = get_or-replicate {A = Float} 402 k (of_u64 0) nan h

-- a number after a time above 0
pub decayed-by : (dt x : Float) → le dt (of_u64 0) ≡ false → mul binary64 x (share_left dt) ≡ decayed dt x
unfolding decayed
decayed-by dt x h = rw h

-- the meter where the time is not above 0, and where it is
pub decayed-none : (dt x : Float) → le dt (of_u64 0) ≡ true → decayed dt x ≡ x
unfolding decayed
decayed-none dt x h = rw h

pub decay-none : (m : FeeFlowMeter) (now : ℕ) → le (gap m.last now) (of_u64 0) ≡ true → m ≡ decay_to m now
unfolding decay_to
decay-none m now h =
    rw (h, decayed-none (gap m.last now) m.admitted_wu h, map_same (decayed (gap m.last now)) (λ x. decayed-none (gap m.last now) x h) m.admit_wu_s)

pub decay-some : (m : FeeFlowMeter) (now : ℕ) (dt : Float) → dt ≡ gap m.last now → le dt (of_u64 0) ≡ false
    → ◌≡◌ {A = FeeFlowMeter} (record { admit_wu_s = map (decayed dt) m.admit_wu_s; admitted_wu = decayed dt m.admitted_wu; last = now; last_admit = m.last_admit }) (decay_to m now)
unfolding decay_to
decay-some m now dt e h = rw (← e, h)

-- ---- `max` is its first argument where that is not below the second
at_least : (a b : ℕ) (q c : Bool) → (q ≡ true → b ≡ a) → ltb b a || (q && c) ≡ true → b ≤ a
at_least a b q c e h = go (ltb b a) refl q refl h
  where
    go : (p : Bool) → ltb b a ≡ p → (r : Bool) → q ≡ r → p || (r && c) ≡ true → b ≤ a
    go true l r f h = let z = ltb-true b a l in omega arith
    go false l true f h = let z = e f in omega arith
    go false l false f h = absurd (true≢false (sym h))

both_zero : (a b : ℕ) → eqb b a && eqb b 0 ≡ true → a + b ≤ 0
both_zero a b h = go (eqb b a) refl (eqb b 0) refl h
  where
    go : (p : Bool) → eqb b a ≡ p → (q : Bool) → eqb b 0 ≡ q → p && q ≡ true → a + b ≤ 0
    go true e true f h = let i = eqb-true b a e in let j = eqb-true b 0 f in omega arith
    go true e false f h = absurd (true≢false (sym h))
    go false e q f h = absurd (true≢false (sym h))

not-below : (x y : Float) → le y x ≡ true → lt x y ≡ false
unfolding le lt eq
not-below nan y h = refl
not-below (inf s) nan h = refl
not-below (inf false) (inf t) h = refl
not-below (inf true) (inf true) h = refl
not-below (inf true) (inf false) h = absurd (true≢false (sym h))
not-below (inf false) (fin t n d) h = refl
not-below (inf true) (fin t n d) h = absurd (true≢false (sym h))
not-below (fin s m e) nan h = refl
not-below (fin s m e) (inf true) h = refl
not-below (fin s m e) (inf false) h = absurd (true≢false (sym h))
not-below (fin false m e) (fin false n d) h = le-ltb (m * up e * down d) (n * up d * down e) (at_least (m * up e * down d) (n * up d * down e) (eqb (n * up d * down e) (m * up e * down d)) true (eqb-true _ _) h)
not-below (fin false m e) (fin true n d) h = refl
not-below (fin true m e) (fin false n d) h = le-ltb 0 (m * up e * down d + n * up d * down e) (both_zero (m * up e * down d) (n * up d * down e) h)
not-below (fin true m e) (fin true n d) h = le-ltb (n * up d * down e) (m * up e * down d) (at_least (n * up d * down e) (m * up e * down d) (eqb (n * up d * down e) (m * up e * down d)) true (λ z. sym (eqb-true _ _ z)) h)

number : (x y : Float) → le y x ≡ true → is_nan x ≡ false
unfolding le lt eq is_nan
number nan nan h = absurd (true≢false (sym h))
number nan (inf t) h = absurd (true≢false (sym h))
number nan (fin t n d) h = absurd (true≢false (sym h))
number (inf s) y h = refl
number (fin s m e) y h = refl

pub max-first : (x y : Float) → le y x ≡ true → max_of x y ≡ x
unfolding max_of
max-first x y h = rw (number x y h, not-below x y h)

-- the share since the last admission is the share since a clock that is the same, where the least time is not the greater
pub same-share : (last la now : ℕ) (dt share since : Float) → dt ≡ max_of (gap la now) least_secs → share ≡ share_left dt → since ≡ gap last now → last ≡ la → le least_secs since ≡ true
    → share ≡ share_left (gap last now)
same-share last la now dt share since d s g e h =
    let l : gap la now ≡ gap last now = ap (λ (n : ℕ). gap n now) (sym e) in
    let h' : le least_secs (gap last now) ≡ true = rw g at h in
    s ∙ ap share_left (d ∙ rw l (max-first (gap last now) least_secs h'))

-- a time of at least the least time is above 0
not-under : (a b : ℕ) (c : Bool) → b < a → ltb a b || (eqb a b && c) ≡ false
not-under a b c l = rw (le-ltb a b (omega arith), ne_eqb a b (λ e. omega arith)) refl

pub above-least : (x : Float) → le least_secs x ≡ true → le x (of_u64 0) ≡ false
unfolding le lt eq round of_int
above-least nan h = absurd (true≢false (sym h))
above-least (inf false) h = refl
above-least (inf true) h = absurd (true≢false (sym h))
above-least (fin false m e) h =
    let l = at_least (m * up e * 1152921504606846976) (1152921504606847 * down e) (eqb (1152921504606847 * down e) (m * up e * 1152921504606846976)) true (eqb-true _ _) h in
    not-under (m * up e * 1) (0 * down e) true (omega (arith, down_pos e, l))
above-least (fin true m e) h = let l = both_zero (m * up e * 1152921504606846976) (1152921504606847 * down e) h in absurd (omega (arith, down_pos e, l))

-- ---- the bucket is a place of the rates
seek-le : (p : ℕ → Bool) (i n : ℕ) → seek p i n ≤ i + n
unfolding seek
seek-le p i zero = omega arith
seek-le p i (suc n) = go (p i) (seek-le p (suc i) n)
  where
    go : (b : Bool) → seek p (suc i) n ≤ suc i + n → cond b i (seek p (suc i) n) ≤ i + suc n
    go true h = omega arith
    go false h = omega arith

pub bucket-lt : (rate : ℕ) → bucket_index rate < 402
unfolding bucket_index first_above
bucket-lt rate = go (eqb (first_above rate) 0) (ltb (edge_at 400) rate)
  where
    go : (a b : Bool) → cond a 0 (cond b 401 (first_above rate - 1)) < 402
    go true b = omega arith
    go false true = omega arith
    go false false = omega (arith, seek-le (λ i. ltb rate (edge_at i)) 0 401)
