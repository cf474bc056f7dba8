-- What an eviction means: the view after it is the Rust's `evict` of the view before. Assumes nothing.
use Prim.Native.Nat.{ℕ, zero, suc, ◌-◌}
use mathlib.Core.Path.{◌≡◌, refl, ◌∙◌}
use mathlib.Core.Bool.{Bool, true, false, cond, not, ◌&&◌}
use mathlib.Core.List.{List, [], ◌∷◌}
use native.Mathlib.Numerals.{add-one}
use native.Mathlib.Omega.{arith}
use lib.Dec.{ltb, eqb}
use lib.Ieee.{Float}
use lib.ListN.{get_or}
use Rattle.slices.specs.Lists.{tabulate}
use Rattle.rbitcoin_mempool.specs.Pairs.{pop_front}
use Rattle.rbitcoin_mempool.specs.Windows.{windows, pop_front_of}
use Rattle.rbitcoin_mempool.proofs.Kept.{Good, pop_front_good}
use Rattle.rbitcoin_mempool.proofs.Views.{pop_front-held, pop_front-set-up}
use Rattle.rbitcoin_net.specs.declared.fee_history.HistoricalFeeBlock.{HistoricalFeeBlock}
use Rattle.rbitcoin_net.specs.declared.fee_history.FeeHistory.{FeeHistory}
use Rattle.rbitcoin_net.specs.Map.{Entry, Ascends}
use Rattle.rbitcoin_net.specs.History.{set_blocks, set_total, set_hashes, forget, evict_one, evict_blocks, evict}
use Rattle.rbitcoin_net.specs.Lent.{Rows, Hashes, Lent, lent, row_at, held_rows, hashes_in, kept_rates, windows_of, view}
use Rattle.rbitcoin_net.specs.Hashes.{hash_list, Room, remove_hash}
use Rattle.rbitcoin_net.specs.Cuts.{with_sums, unkept, forget_row}
use Rattle.rbitcoin_net.specs.Evictions.{Hashed, hashed, evict_row, evict_oldest, evict_rows, evict_in}
use Rattle.rbitcoin_net.proofs.CutViews.{forget-view-by}
use Rattle.rbitcoin_net.proofs.Evictions.{remove-room}
use Rattle.rbitcoin_net.proofs.HashViews.{remove-view, remove-ascends}

module _ (m : Rows) (us : List ℕ) (bs : List Float) (ds : List ℕ) where
  abbrev with : Hashes → Lent
  with z = lent m z us bs ds

  -- what is asked of a state and its hashes, and stays
  pub record Fit (s : FeeHistory) (z : Hashes) : Type 0 where
    pub good : Good (windows_of s (with z))
    pub room : Room (hash_list s.hashes z)
    pub ascends : Ascends (hashes_in s.hashes z)

  module _ (s : FeeHistory) (z : Hashes) (x : Fit s z) where
    abbrev next : Hashed
    next = evict_oldest m (hashed s z)

    abbrev height : ℕ
    height = get_or m.heights s.start 0

    one-fields : (ps : List (Entry HistoricalFeeBlock)) → set_blocks ps (view next.state (with next.hashes))
        ≡ set_blocks ps (set_hashes (hashes_in (remove_hash height (hash_list s.hashes z)).count (remove_hash height (hash_list s.hashes z)).lists) (view (forget_row pop_front_of (get_or m.marks s.start 0) (get_or m.sizes s.start 0) s) (with z)))
    unfolding evict_row view kept_rates
    one-fields ps = refl

    pub one-view : (ps : List (Entry HistoricalFeeBlock)) → set_blocks ps (view next.state (with next.hashes)) ≡ evict_one (row_at m s.start) (set_blocks ps (view s (with z)))
    unfolding evict_one forget view
    one-view ps =
        one-fields ps
        ∙ (λ i. set_blocks ps (set_hashes (remove-view height (hash_list s.hashes z) x.room x.ascends i) (forget-view-by m z us bs ds pop_front_of pop_front s.start s (pop_front-set-up s.analog) (pop_front-held (windows_of s (with z)) x.good.valid) i)))

    pub one_good : Good (windows_of next.state (with next.hashes))
    unfolding evict_row forget_row
    one_good = go (eqb (get_or m.marks s.start 0) 1 && not s.analog_stale)
      where
        go : (b : Bool) → Good (windows (cond b (pop_front_of s.analog) s.analog) us bs ds)
        go true = pop_front_good (windows_of s (with z)) x.good
        go false = x.good

    pub one-fit : Fit next.state next.hashes
    unfolding evict_row
    one-fit = record {
      good = one_good;
      room = remove-room height (hash_list s.hashes z) x.room;
      ascends = remove-ascends height (hash_list s.hashes z) x.room x.ascends;
    }

    pub next_start : next.state.start ≡ suc s.start
    unfolding evict_row
    next_start = add-one s.start

    pub next-count : (n : ℕ) → s.count ≡ suc n → next.state.count ≡ n
    unfolding evict_row
    next-count n e = let d : s.count - 1 ≡ n = omega arith in d

    -- the blocks of a view are its rows
    view-blocks : (n : ℕ) → s.count ≡ n → view s (with z) ≡ set_blocks (tabulate (row_at m) s.start n) (view s (with z))
    unfolding view held_rows
    view-blocks n e = λ i. set_blocks (tabulate (row_at m) s.start (e i)) (view s (with z))

    view-none : s.count ≡ 0 → view (with_sums s.analog 0 s) (with z) ≡ set_total 0 (set_blocks [] (view s (with z)))
    unfolding view held_rows kept_rates tabulate
    view-none e = λ i. set_total 0 (set_blocks (tabulate (row_at m) s.start (e i)) (view s (with z)))

  pub rows-view : (n : ℕ) (s : FeeHistory) (z : Hashes) (ps : List (Entry HistoricalFeeBlock)) → s.count ≡ n → Fit s z
      → view (evict_rows m n (hashed s z)).state (with (evict_rows m n (hashed s z)).hashes) ≡ evict_blocks (tabulate (row_at m) s.start n) (set_blocks ps (view s (with z)))
  unfolding evict_rows evict_blocks tabulate view
  rows-view zero s z ps e x = go (ltb s.budget s.txstat_bytes)
    where
      go : (b : Bool) → view (cond b (hashed (with_sums s.analog 0 s) z) (hashed s z)).state (with (cond b (hashed (with_sums s.analog 0 s) z) (hashed s z)).hashes) ≡ cond b (set_total 0 (set_blocks [] (view s (with z)))) (set_blocks [] (view s (with z)))
      go true = view-none s z x e
      go false = view-blocks s z x 0 e
  rows-view (suc n) s z ps e x =
      go (ltb s.budget s.txstat_bytes)
      (rows-view n (next s z x).state (next s z x).hashes ps (next-count s z x n e) (one-fit s z x)
      ∙ (λ i. evict_blocks (tabulate (row_at m) (next_start s z x i) n) (one-view s z x ps i)))
    where
      go : (b : Bool) → view (evict_rows m n (evict_oldest m (hashed s z))).state (with (evict_rows m n (evict_oldest m (hashed s z))).hashes) ≡ evict_blocks (tabulate (row_at m) (suc s.start) n) (evict_one (row_at m s.start) (set_blocks ps (view s (with z))))
          → view (cond b (evict_rows m n (evict_oldest m (hashed s z))) (hashed s z)).state (with (cond b (evict_rows m n (evict_oldest m (hashed s z))) (hashed s z)).hashes)
          ≡ cond b (evict_blocks (tabulate (row_at m) (suc s.start) n) (evict_one (row_at m s.start) (set_blocks ps (view s (with z))))) (set_blocks (row_at m s.start ∷ tabulate (row_at m) (suc s.start) n) (view s (with z)))
      go true h = h
      go false h = view-blocks s z x (suc n) e

  pub evict-view : (s : FeeHistory) (z : Hashes) → Fit s z → view (evict_in m (hashed s z)).state (with (evict_in m (hashed s z)).hashes) ≡ evict (view s (with z))
  unfolding evict_in evict view kept_rates held_rows
  evict-view s z x = rows-view s.count (unkept s) z (held_rows m s) refl (record { good = x.good; room = x.room; ascends = x.ascends })
