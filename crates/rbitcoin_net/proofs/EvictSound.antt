-- An eviction leaves a sound state sound. Assumes nothing.
use Prim.Native.Nat.{ℕ, zero, suc}
use mathlib.Core.Path.{◌≡◌, refl, sym, ◌∙◌, ap, subst}
use mathlib.Core.Bool.{Bool, true, false, cond, not, ◌&&◌}
use mathlib.Core.List.{List, [], ◌∷◌}
use mathlib.Core.Option.{Option, none, some}
use native.Mathlib.Omega.{arith}
use lib.Dec.{ltb}
use lib.Ieee.{Float}
use Rattle.slices.specs.Lists.{tabulate}
use Rattle.rbitcoin_mempool.specs.Pairs.{pop_front}
use Rattle.rbitcoin_mempool.specs.Windows.{held_in}
use Rattle.rbitcoin_mempool.proofs.Kept.{good-stored, stored_good}
use Rattle.rbitcoin_net.specs.declared.fee_history.FeeHistory.{FeeHistory}
use Rattle.rbitcoin_net.specs.Map.{Ascends, is_some}
use Rattle.rbitcoin_net.specs.History.{History, hurdle_of, forget, evict_one, cons_maybe, hurdles_of}
use Rattle.rbitcoin_net.specs.Lent.{Rows, Hashes, Lent, lent, row_at, held_rows, windows_of, view, state_refusal, lent_refusal, Sound}
use Rattle.rbitcoin_net.specs.Cuts.{with_sums, unkept, forget_row}
use Rattle.rbitcoin_net.specs.Evictions.{Hashed, hashed, evict_row, evict_oldest, evict_rows, evict_in}
use Rattle.rbitcoin_net.proofs.Refusals.{Serves, serves, serves-lent}
use Rattle.rbitcoin_net.proofs.SetUps.{evict-row-set-up}
use Rattle.rbitcoin_net.proofs.EvictViews.{Fit, one-view, one-fit, next_start, next-count}

-- a sound state is sound with another total, and without kept rates
module _ (s : FeeHistory) (m : Lent) (x : Sound s m) where
  pub total-sound : (total : ℕ) → Sound (with_sums s.analog total s) m
  unfolding lent_refusal state_refusal held_rows
  total-sound total = record { lent = x.lent; ascends = x.ascends; hashes_ascend = x.hashes_ascend; stored = x.stored; hurdles = x.hurdles }

  pub unkept-sound : Sound (unkept s) m
  unfolding lent_refusal state_refusal held_rows
  unkept-sound = record { lent = x.lent; ascends = x.ascends; hashes_ascend = x.hashes_ascend; stored = x.stored; hurdles = x.hurdles }

-- the first hurdle goes with the first rate
first_popped : (o : Option ℕ) (b : Bool) (hs rest : List ℕ) → b ≡ false → hs ≡ cons_maybe o rest → cond (is_some o && not b) (pop_front hs) hs ≡ rest
first_popped none b hs rest st e = e
first_popped (some r) b hs rest st e = ap (λ (t : Bool). cond (not t) (pop_front hs) hs) st ∙ ap pop_front e

module _ (m : Rows) (us : List ℕ) (bs : List Float) (ds : List ℕ) where
  abbrev with : Hashes → Lent
  with z = lent m z us bs ds

  pub sound-fit : (s : FeeHistory) (z : Hashes) → Sound s (with z) → Fit m us bs ds s z
  sound-fit s z x =
      let v = serves s (with z) x.lent in
      record {
        good = stored_good (windows_of s (with z)) v.windows x.stored;
        room = record { few = v.hashes-few; heights = v.heights-reach; bytes = v.bytes-reach };
        ascends = x.hashes_ascend;
      }

  module _ (s : FeeHistory) (z : Hashes) (n : ℕ) (c : s.count ≡ suc n) (x : Sound s (with z)) where
    abbrev next : Hashed
    next = evict_oldest m (hashed s z)

    fit : Fit m us bs ds s z
    fit = sound-fit s z x

    rows_were : held_rows m s ≡ row_at m s.start ∷ tabulate (row_at m) (suc s.start) n
    unfolding held_rows tabulate
    rows_were = ap (tabulate (row_at m) s.start) c

    rows_are : held_rows m next.state ≡ tabulate (row_at m) (suc s.start) n
    unfolding held_rows
    rows_are = λ i. tabulate (row_at m) (next_start m us bs ds s z fit i) (next-count m us bs ds s z fit n c i)

    capacity-is : next.state.analog.capacity ≡ s.analog.capacity
    capacity-is = (evict-row-set-up _ _ _ (hashed s z)).same_windows.same_capacity

    stale-is : next.state.analog_stale ≡ s.analog_stale
    unfolding evict_row forget_row
    stale-is = refl

    hurdles_are : next.state.analog_stale ≡ false → held_in (windows_of next.state (with next.hashes)) ≡ hurdles_of (tabulate (row_at m) (suc s.start) n)
    unfolding view evict_one forget hurdles_of
    hurdles_are st =
        let u : s.analog_stale ≡ false = sym stale-is ∙ st in
        ap (λ (v : History). v.hurdles) (one-view m us bs ds s z fit [])
        ∙ first_popped (hurdle_of (row_at m s.start).value) s.analog_stale (held_in (windows_of s (with z))) (hurdles_of (tabulate (row_at m) (suc s.start) n)) u (x.hurdles u ∙ ap hurdles_of rows_were)

    next-serves : Serves next.state (with next.hashes)
    next-serves =
        let v = serves s (with z) x.lent in
        let f = one-fit m us bs ds s z fit in
        let e = capacity-is in
        let a = next_start m us bs ds s z fit in
        let b = next-count m us bs ds s z fit n c in
        let r = v.rows-reach in
        record {
          rows-within = omega (arith, v.rows-within);
          hashes-few = f.room.few;
          rows-reach = record { heights = omega (arith, r.heights); marks = omega (arith, r.marks); rates = omega (arith, r.rates); sizes = omega (arith, r.sizes) };
          heights-reach = f.room.heights;
          bytes-reach = f.room.bytes;
          windows = f.good.valid;
        }

    one-sound : Sound next.state (with next.hashes)
    one-sound =
        let was : Ascends (row_at m s.start ∷ tabulate (row_at m) (suc s.start) n) = subst Ascends rows_were x.ascends in
        let f = one-fit m us bs ds s z fit in
        record {
          lent = serves-lent next.state (with next.hashes) next-serves;
          ascends = subst Ascends (sym rows_are) was.1;
          hashes_ascend = f.ascends;
          stored = good-stored (windows_of next.state (with next.hashes)) f.good;
          hurdles = λ st. hurdles_are st ∙ ap hurdles_of (sym rows_are);
        }

  rows-sound : (n : ℕ) (s : FeeHistory) (z : Hashes) → s.count ≡ n → Sound s (with z) → Sound (evict_rows m n (hashed s z)).state (with (evict_rows m n (hashed s z)).hashes)
  unfolding evict_rows
  rows-sound zero s z c x = go (ltb s.budget s.txstat_bytes)
    where
      go : (b : Bool) → Sound (cond b (hashed (with_sums s.analog 0 s) z) (hashed s z)).state (with (cond b (hashed (with_sums s.analog 0 s) z) (hashed s z)).hashes)
      go true = total-sound s (with z) x 0
      go false = x
  rows-sound (suc n) s z c x =
      go (ltb s.budget s.txstat_bytes)
      (rows-sound n (evict_oldest m (hashed s z)).state (evict_oldest m (hashed s z)).hashes (next-count m us bs ds s z (sound-fit s z x) n c) (one-sound s z n c x))
    where
      go : (b : Bool) → Sound (evict_rows m n (evict_oldest m (hashed s z))).state (with (evict_rows m n (evict_oldest m (hashed s z))).hashes)
          → Sound (cond b (evict_rows m n (evict_oldest m (hashed s z))) (hashed s z)).state (with (cond b (evict_rows m n (evict_oldest m (hashed s z))) (hashed s z)).hashes)
      go true y = y
      go false y = x

  pub evict-sound : (s : FeeHistory) (z : Hashes) → Sound s (with z) → Sound (evict_in m (hashed s z)).state (with (evict_in m (hashed s z)).hashes)
  unfolding evict_in
  evict-sound s z x = rows-sound s.count (unkept s) z refl (unkept-sound s (with z) x)
