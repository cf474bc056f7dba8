-- `insert_if_absent`: the code's branches and steps by the definitions. Assumes nothing.
use Prim.Native.Nat.{ℕ, ◌+◌, ◌-◌, ◌<◌}
use mathlib.Core.Path.{◌≡◌, refl, sym, ◌∙◌, ap, subst}
use mathlib.Core.Bool.{Bool, true, false, cond}
use mathlib.Core.List.{List}
use mathlib.Core.Option.{Option}
use native.Mathlib.Omega.{arith}
use lib.Dec.{eqb}
use lib.Ieee.{Float}
use lib.ListN.{length}
use borrow.Author.Tests.{eq-eqb, ne_eqb}
use Rattle.rbitcoin_mempool.specs.declared.fee_analog.history.AnalogHistory.{AnalogHistory}
use Rattle.rbitcoin_mempool.specs.Windows.{Windows, windows}
use Rattle.rbitcoin_mempool.proofs.Refusals.{first_stands, then_second}
use Rattle.rbitcoin_net.specs.declared.fee_history.HistoricalFeeBlock.{HistoricalFeeBlock}
use Rattle.rbitcoin_net.specs.declared.fee_history.FeeHistory.{FeeHistory}
use Rattle.rbitcoin_net.specs.History.{hurdle_of}
use Rattle.rbitcoin_net.specs.Lent.{Rows, Hashes, Lent, lent, windows_of, lent_refusal}
use Rattle.slices.specs.Search.{bisect}
use Rattle.rbitcoin_net.specs.Search.{place_of, is_at, is_held}
use Rattle.rbitcoin_net.specs.Hashes.{hash_list, Room}
use Rattle.rbitcoin_net.specs.Cuts.{unkept}
use Rattle.rbitcoin_net.specs.Rooms.{Roomy}
use Rattle.rbitcoin_net.specs.Inserts.{insert_if_absent_refusal, Placed, Whole, whole, Filed, filed, with_windows, store_in, store_with, preload_windows, preload_stale, insert_if_absent_in}
use Rattle.rbitcoin_net.proofs.Tables.{either}
use Rattle.rbitcoin_net.proofs.Search.{place_is}
use Rattle.rbitcoin_net.proofs.Refusals.{serves}
use Rattle.rbitcoin_net.proofs.SetUps.{preload-windows-set-up}

-- ---- what is refused

pub preload_short : (h : ℕ) (s : FeeHistory) (m : Lent) (k : ℕ) → k ≡ lent_refusal s m → (k ≡ 0 → ⊥) → k ≡ insert_if_absent_refusal h s m
unfolding insert_if_absent_refusal
preload_short h s m k e n = first_stands (lent_refusal s m) _ k e n

pub preload-fits : (s : FeeHistory) (m : Lent) → lent_refusal s m ≡ 0 → (s.count ≡ s.analog.capacity → ⊥) → s.count < s.analog.capacity
preload-fits s m z n =
    let v = serves s m z in
    let w = v.rows-within in
    either s.count s.analog.capacity (λ o. o) (λ o. absurd (n (omega arith)))

module _ (h : ℕ) (s : FeeHistory) (m : Lent) (p : ℕ) (b : Bool) (z : lent_refusal s m ≡ 0) (d : p ≡ bisect (s.start + s.count - s.start) m.rows.heights h s.start (s.start + s.count)) (f : b ≡ is_at m.rows.heights (s.start + s.count) h p) where
  pub held-is : b ≡ is_held m.rows.heights s h
  held-is = f ∙ ap (is_at m.rows.heights (s.start + s.count) h) (place_is m.rows.heights s h p d)

  abbrev full : ℕ
  full = cond (eqb s.count s.analog.capacity) 4 0

  pub preload_there : b ≡ true → insert_if_absent_refusal h s m ≡ 0
  unfolding insert_if_absent_refusal
  preload_there t = sym (then_second (lent_refusal s m) _ _ 0 refl z (sym (ap (λ c. cond c 0 full) (sym held-is ∙ t))))

  pub preload-full : b ≡ false → s.count ≡ s.analog.capacity → 4 ≡ insert_if_absent_refusal h s m
  unfolding insert_if_absent_refusal
  preload-full t u = then_second (lent_refusal s m) _ _ 4 refl z (sym (ap (λ c. cond c 0 full) (sym held-is ∙ t) ∙ ap (λ c. cond c 4 0) (eq-eqb s.count s.analog.capacity u)))

  pub preload_free : b ≡ false → (s.count ≡ s.analog.capacity → ⊥) → insert_if_absent_refusal h s m ≡ 0
  unfolding insert_if_absent_refusal
  preload_free t u = sym (then_second (lent_refusal s m) _ _ 0 refl z (sym (ap (λ c. cond c 0 full) (sym held-is ∙ t) ∙ ap (λ c. cond c 4 0) (ne_eqb s.count s.analog.capacity u))))

-- ---- what the steps ask for, and leave

module _ (h p : ℕ) (s : FeeHistory) (m : Lent) (x : Placed s m h p) where
  pub preload_ready : (o : Option ℕ) (stale : Bool) (a : AnalogHistory) (us : List ℕ) (bs : List Float) (ds : List ℕ) (t : FeeHistory) → s.count < s.analog.capacity → t ≡ with_windows a s.analog_stale (unkept s) → windows a us bs ds ≡ preload_windows (p - s.start) s.count o s.analog_stale (windows_of s m)
      → Roomy (p - s.start) (with_windows t.analog stale t) (length m.rows.heights) (length m.rows.marks) (length m.rows.rates) (length m.rows.sizes) × Room (hash_list t.hashes m.hashes)
  preload_ready o stale a us bs ds t l g f =
      let v = serves s m x.lent in
      let r = v.rows-reach in
      let w = v.rows-within in
      let c : a.capacity ≡ s.analog.capacity = ap (λ (y : Windows). y.state.capacity) f ∙ (preload-windows-set-up (p - s.start) s.count o s.analog_stale (windows_of s m)).same_capacity in
      let low = x.low in
      let high = x.high in
      subst
      (λ (y : FeeHistory). Roomy (p - s.start) (with_windows y.analog stale y) (length m.rows.heights) (length m.rows.marks) (length m.rows.rates) (length m.rows.sizes) × Room (hash_list y.hashes m.hashes))
      (sym g) (
        record {
          within = omega arith;
          room = omega arith;
          small = omega (arith, v.windows.small);
          rank = omega arith;
          heights = omega (arith, r.heights);
          marks = omega (arith, r.marks);
          rates = omega (arith, r.rates);
          sizes = omega (arith, r.sizes);
        },
        record { few = v.hashes-few; heights = v.heights-reach; bytes = v.bytes-reach },
      )

  pub preloaded_all : (b : HistoricalFeeBlock) (hash : Option (List ℕ)) (t r : FeeHistory) (stale : Bool) (a : AnalogHistory) (n : Rows) (y : Hashes) (us : List ℕ) (bs : List Float) (ds : List ℕ) → is_held m.rows.heights s h ≡ false
      → stale ≡ preload_stale (p - s.start) s.count (hurdle_of b) s.analog_stale → windows a us bs ds ≡ preload_windows (p - s.start) s.count (hurdle_of b) s.analog_stale (windows_of s m)
      → t ≡ with_windows a s.analog_stale (unkept s) → filed r n y ≡ store_in (p - s.start) h b hash (filed (with_windows t.analog stale t) m.rows m.hashes) → whole r (lent n y us bs ds) ≡ insert_if_absent_in h b hash (whole s m)
  unfolding insert_if_absent_in
  preloaded_all b hash t r stale a n y us bs ds absent e d g f =
      let F : ℕ → Windows → Bool → Whole = λ q w t. store_with q h b hash w t (unkept s) m.rows m.hashes in
      let G : ℕ → Whole = λ q. F q (preload_windows q s.count (hurdle_of b) s.analog_stale (windows_of s m)) (preload_stale q s.count (hurdle_of b) s.analog_stale) in
      ap (λ (v : Filed). whole v.state (lent v.rows v.hashes us bs ds))
      (f ∙ ap (λ (v : FeeHistory). store_in (p - s.start) h b hash (filed (with_windows v.analog stale v) m.rows m.hashes)) g)
      ∙ (λ i. F (p - s.start) (d i) (e i))
      ∙ ap (λ j. G (j - s.start)) x.place
      ∙ sym (ap (λ c. cond c (whole s m) (G (place_of m.rows.heights s h - s.start))) absent)
