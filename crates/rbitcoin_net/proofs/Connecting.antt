-- `insert`: the code's branches and steps by the definitions. Assumes nothing.
use Prim.Native.Nat.{ℕ, ◌+◌, ◌-◌, ◌≤◌, ◌<◌}
use mathlib.Core.Path.{◌≡◌, refl, sym, ◌∙◌, ap, subst}
use mathlib.Core.Bool.{cond}
use mathlib.Core.List.{List}
use mathlib.Core.Option.{Option}
use native.Mathlib.Omega.{arith}
use lib.Ieee.{Float}
use lib.ListN.{length}
use borrow.Author.Tests.{eq-eqb, ne_eqb}
use Rattle.rbitcoin_mempool.specs.declared.fee_analog.history.AnalogHistory.{AnalogHistory}
use Rattle.rbitcoin_mempool.specs.Windows.{Windows, windows, push_back_of}
use Rattle.rbitcoin_mempool.proofs.Refusals.{first_stands, then_second}
use Rattle.rbitcoin_mempool.proofs.Views.{push-back-set-up}
use Rattle.rbitcoin_net.specs.declared.fee_history.HistoricalFeeBlock.{HistoricalFeeBlock}
use Rattle.rbitcoin_net.specs.declared.fee_history.FeeHistory.{FeeHistory}
use Rattle.rbitcoin_net.specs.History.{hurdle_of}
use Rattle.rbitcoin_net.specs.Lent.{Rows, Reach, Hashes, Lent, lent, windows_of, lent_refusal}
use Rattle.slices.specs.Search.{bisect, lower_bound}
use Rattle.slices.proofs.Bisect.{lower_bound_is}
use Rattle.rbitcoin_net.specs.Search.{place_of}
use Rattle.rbitcoin_net.specs.Hashes.{hash_list, Room, hash_place}
use Rattle.rbitcoin_net.specs.Cuts.{with_hashes, unkept, cut_at, drop_from}
use Rattle.rbitcoin_net.specs.Rooms.{Roomy}
use Rattle.rbitcoin_net.specs.Inserts.{insert_refusal, Placed, Whole, whole, Filed, filed, with_windows, push_rate, store_in, insert_in}
use Rattle.rbitcoin_net.proofs.Tables.{either}
use Rattle.rbitcoin_net.proofs.Search.{place_is}
use Rattle.rbitcoin_net.proofs.Hashes.{hash-place-is}
use Rattle.rbitcoin_net.proofs.Refusals.{Serves, serves}
use Rattle.rbitcoin_net.proofs.SetUps.{drop-set-up, rate-set-up}
use Rattle.rbitcoin_net.proofs.Inserting.{bisect-within}

-- ---- what is refused

pub insert_short : (h : ℕ) (s : FeeHistory) (m : Lent) (k : ℕ) → k ≡ lent_refusal s m → (k ≡ 0 → ⊥) → k ≡ insert_refusal h s m
unfolding insert_refusal
insert_short h s m k e n = first_stands (lent_refusal s m) _ k e n

-- rows of memory that serves, and a place below the capacity
pub rows_ready : (s : FeeHistory) (m : Lent) → lent_refusal s m ≡ 0 → (s.start + s.count ≤ 65536) × (s.start + s.count ≤ length m.rows.heights)
rows_ready s m z =
    let v = serves s m z in
    let w = v.rows-within in
    (omega (arith, v.windows.small), omega (arith, v.rows-reach.heights))

-- the search of those rows
pub sought : (h : ℕ) (s : FeeHistory) (m : Lent) (p : ℕ) → lent_refusal s m ≡ 0 → p ≡ lower_bound m.rows.heights s.start (s.start + s.count) h → p ≡ bisect (s.start + s.count - s.start) m.rows.heights h s.start (s.start + s.count)
sought h s m p z e = e ∙ lower_bound_is m.rows.heights s.start (s.start + s.count) h (rows_ready s m z).1

pub insert-fits : (s : FeeHistory) (m : Lent) (p : ℕ) → lent_refusal s m ≡ 0 → p ≤ s.start + s.count → (p - s.start ≡ s.analog.capacity → ⊥) → p < s.start + s.analog.capacity
insert-fits s m p z l n =
    let v = serves s m z in
    let w = v.rows-within in
    either p (s.start + s.analog.capacity) (λ o. o) (λ o. absurd (n (omega arith)))

module _ (h : ℕ) (s : FeeHistory) (m : Lent) (p : ℕ) (z : lent_refusal s m ≡ 0) (d : p ≡ bisect (s.start + s.count - s.start) m.rows.heights h s.start (s.start + s.count)) where
  abbrev below : ℕ
  below = place_of m.rows.heights s h - s.start

  place : p ≡ place_of m.rows.heights s h
  place = place_is m.rows.heights s h p d

  is_below : p - s.start ≡ below
  is_below = ap (λ j. j - s.start) place

  pub insert-full : p - s.start ≡ s.analog.capacity → 4 ≡ insert_refusal h s m
  unfolding insert_refusal
  insert-full f = then_second (lent_refusal s m) _ _ 4 refl z (sym (ap (λ b. cond b 4 0) (eq-eqb below s.analog.capacity (sym is_below ∙ f))))

  pub insert_free : (p - s.start ≡ s.analog.capacity → ⊥) → insert_refusal h s m ≡ 0
  unfolding insert_refusal
  insert_free f = sym (then_second (lent_refusal s m) _ _ 0 refl z (sym (ap (λ b. cond b 4 0) (ne_eqb below s.analog.capacity (λ y. f (is_below ∙ y))))))

  pub placed : s.start ≤ p → p ≤ s.start + s.count → Placed s m h p
  placed low high = record { lent = z; place = place; low = low; high = high }

-- ---- what the steps ask for

module _ (h p : ℕ) (s : FeeHistory) (m : Lent) (x : Placed s m h p) where
  served : Serves s m
  served = serves s m x.lent

  pub reached : Reach s m.rows
  reached =
      let v = served in
      let w = v.rows-within in
      let r = v.rows-reach in
      record {
        heights = omega (arith, r.heights);
        marks = omega (arith, r.marks);
        rates = omega (arith, r.rates);
        sizes = omega (arith, r.sizes);
      }

  pub hashes_ready : (0 ≤ s.hashes) × (s.hashes ≤ length m.hashes.heights)
  hashes_ready = let v = served in (omega arith, omega (arith, v.hashes-few, v.heights-reach))

  pub hash_sought : (q : ℕ) → q ≡ lower_bound m.hashes.heights 0 s.hashes h → q ≡ bisect (s.hashes - 0) m.hashes.heights h 0 s.hashes
  hash_sought q e = e ∙ lower_bound_is m.hashes.heights 0 s.hashes h hashes_ready.1

  abbrev left : FeeHistory
  left = drop_from h m.rows m.hashes s

  pub left_is : (q : ℕ) (c : FeeHistory) → q ≡ bisect (s.hashes - 0) m.hashes.heights h 0 s.hashes → c ≡ cut_at m.rows p s → with_hashes q (unkept c) ≡ left
  unfolding drop_from
  left_is q c d f =
      let b : q ≡ hash_place h (hash_list s.hashes m.hashes) = hash-place-is h (hash_list s.hashes m.hashes) q d in
      let g = f ∙ ap (λ j. cut_at m.rows j s) x.place in
      λ i. with_hashes (b i) (unkept (g i))

  left_capacity : left.analog.capacity ≡ s.analog.capacity
  left_capacity = (drop-set-up h m.rows m.hashes s).same_windows.same_capacity

  left-start : left.start ≡ s.start
  unfolding drop_from cut_at
  left-start = refl

  left-count : left.count ≡ p - s.start
  unfolding drop_from cut_at
  left-count = ap (λ j. j - s.start) (sym x.place)

  left-hashes : left.hashes ≤ s.hashes
  unfolding drop_from cut_at hash_place
  left-hashes = bisect-within m.hashes.heights h s.hashes 0 s.hashes (omega arith)

  abbrev Ready : FeeHistory → Type 0
  Ready t = Roomy t.count t (length m.rows.heights) (length m.rows.marks) (length m.rows.rates) (length m.rows.sizes) × Room (hash_list t.hashes m.hashes)

  left_ready : (a : AnalogHistory) → a.capacity ≡ s.analog.capacity → p < s.start + s.analog.capacity → Ready (with_windows a left.analog_stale left)
  left_ready a c l =
      let v = served in
      let r = v.rows-reach in
      let w = v.rows-within in
      let n = left-start in
      let k = left-count in
      let o = x.low in
      let u = x.high in (
        record {
          within = omega arith;
          room = omega arith;
          small = omega (arith, v.windows.small);
          rank = omega arith;
          heights = omega (arith, r.heights);
          marks = omega (arith, r.marks);
          rates = omega (arith, r.rates);
          sizes = omega (arith, r.sizes);
        },
        record { few = omega (arith, left-hashes, v.hashes-few); heights = v.heights-reach; bytes = v.bytes-reach },
      )

  module _ (o : Option ℕ) (a : AnalogHistory) (us : List ℕ) (bs : List Float) (ds : List ℕ) (t : FeeHistory) (e : t ≡ left) (f : windows a us bs ds ≡ push_rate push_back_of o t.analog_stale (windows_of t m)) where
    capacity-is : a.capacity ≡ s.analog.capacity
    capacity-is =
        ap (λ (w : Windows). w.state.capacity) f
        ∙ (rate-set-up push_back_of push-back-set-up o t.analog_stale (windows_of t m)).same_capacity
        ∙ ap (λ (u : FeeHistory). u.analog.capacity) e
        ∙ left_capacity

    pub store_ready : (u : FeeHistory) → u ≡ with_windows a t.analog_stale t → p < s.start + s.analog.capacity → Ready u
    store_ready u g l = subst Ready (sym (g ∙ ap (λ (v : FeeHistory). with_windows a v.analog_stale v) e)) (left_ready a capacity-is l)

  pub connected_all : (b : HistoricalFeeBlock) (hash : Option (List ℕ)) (t u r : FeeHistory) (a : AnalogHistory) (n : Rows) (y : Hashes) (us : List ℕ) (bs : List Float) (ds : List ℕ) → t ≡ left
      → windows a us bs ds ≡ push_rate push_back_of (hurdle_of b) t.analog_stale (windows_of t m) → u ≡ with_windows a t.analog_stale t → filed r n y ≡ store_in u.count h b hash (filed u m.rows m.hashes)
      → whole r (lent n y us bs ds) ≡ insert_in h b hash (whole s m)
  unfolding insert_in
  connected_all b hash t u r a n y us bs ds e d g f =
      let F : FeeHistory → Windows → Whole = λ u w. (let v = store_in u.count h b hash (filed (with_windows w.state u.analog_stale u) m.rows m.hashes) in whole v.state (lent v.rows v.hashes w.hurdles w.befores w.aheads)) in
      ap (λ (v : Filed). whole v.state (lent v.rows v.hashes us bs ds))
      (f ∙ ap (λ (v : FeeHistory). store_in v.count h b hash (filed v m.rows m.hashes)) g)
      ∙ ap (F t) d
      ∙ ap (λ (u : FeeHistory). F u (push_rate push_back_of (hurdle_of b) u.analog_stale (windows_of u m))) e
