-- `evict`: the code's turns by the definitions. Assumes nothing.
use Prim.Native.Nat.{ℕ, zero, suc, ◌+◌, ◌-◌, ◌*◌, ◌≤◌, ◌<◌}
use mathlib.Core.Path.{◌≡◌, refl, sym, ◌∙◌, ap, subst}
use mathlib.Core.Bool.{Bool, true, false, cond}
use native.Mathlib.Omega.{arith}
use lib.ListN.{get_or}
use borrow.Author.Tests.{lt-ltb, le-ltb}
use Rattle.slices.proofs.Runs.{length_moved}
use Rattle.rbitcoin_mempool.specs.Windows.{pop_front_of}
use Rattle.rbitcoin_net.specs.Lent.{Rows, block_at}
use Rattle.rbitcoin_net.specs.Search.{is_at}
use Rattle.rbitcoin_net.specs.Hashes.{HashList, hash_list, Room, moved_hashes, hash_place, remove_at, remove_hash}
use Rattle.rbitcoin_net.specs.Cuts.{with_rows, with_sums, with_hashes}
use Rattle.rbitcoin_net.specs.Evictions.{Hashed, hashed, evict_row, evict_block, evict_oldest, evict_rows}
use Rattle.rbitcoin_net.specs.declared.fee_history.HistoricalFeeBlock.{HistoricalFeeBlock}
use Rattle.rbitcoin_net.specs.declared.fee_history.FeeHistory.{FeeHistory}
use Rattle.rbitcoin_net.proofs.Search.{is-at-true}
use Rattle.rbitcoin_net.proofs.Cuts.{block_row}

-- a dropped hash leaves room
pub remove-room : (h : ℕ) (k : HashList) → Room k → Room (remove_hash h k)
unfolding remove_hash remove_at
remove-room h k r = go (is_at k.lists.heights k.count h (hash_place h k)) refl
  where
    q : ℕ
    q = hash_place h k

    moved-room : q < k.count → Room (hash_list (k.count - 1) (moved_hashes q (q + 1) (k.count - q - 1) k.lists))
    moved-room l =
        let f = r.few in
        let a = r.heights in
        let b = r.bytes in
        let e = length_moved k.lists.heights q (q + 1) (k.count - q - 1) (omega arith) (omega arith) in
        let d = length_moved k.lists.bytes (32 * q) (32 * (q + 1)) (32 * (k.count - q - 1)) (omega arith) (omega arith) in
        record { few = omega arith; heights = omega arith; bytes = omega arith }

    go : (b : Bool) → is_at k.lists.heights k.count h q ≡ b → Room (cond b (hash_list (k.count - 1) (moved_hashes q (q + 1) (k.count - q - 1) k.lists)) k)
    go true t = moved-room (is-at-true k.lists.heights k.count h q t).0
    go false t = r

-- one row evicted
-- the block at a place is evicted as its row is
pub evicted-at : (height i : ℕ) (m : Rows) (old : HistoricalFeeBlock) (x y : Hashed) → old ≡ block_at m i → y ≡ evict_block height old x → y ≡ evict_row height (get_or m.marks i 0) (get_or m.sizes i 0) x
unfolding evict_row
evicted-at height i m old x y o e =
    let k = remove_hash height (hash_list x.state.hashes x.hashes) in
    e
    ∙ ap (λ (b : HistoricalFeeBlock). evict_block height b x) o
    ∙ ap (λ (t : FeeHistory). hashed (with_hashes k.count (with_rows (x.state.start + 1) (x.state.count - 1) t)) k.lists) (block_row pop_front_of m i x.state)

-- what the loop keeps: the rows that are left lie in the lists, the hashes have room, and evicting from here gives what it gave at first
pub record Going (m : Rows) (h k q r : ℕ) (goal : Hashed) (x : Hashed) : Type 0 where
  pub small : x.state.start + x.state.count ≤ 65536
  pub heights : x.state.start + x.state.count ≤ h
  pub marks : x.state.start + x.state.count ≤ k
  pub rates : x.state.start + x.state.count ≤ q
  pub sizes : x.state.start + x.state.count ≤ r
  pub room : Room (hash_list x.state.hashes x.hashes)
  pub same : evict_rows m x.state.count x ≡ goal

-- where nothing is over, what is left is what was asked for
pub within-budget : (m : Rows) (n : ℕ) (x : Hashed) → x.state.txstat_bytes ≤ x.state.budget → x ≡ evict_rows m n x
unfolding evict_rows
within-budget m zero x l = rw (le-ltb _ _ l)
within-budget m (suc n) x l = rw (le-ltb _ _ l)

pub none_left : (m : Rows) (n : ℕ) (x : Hashed) → n ≡ 0 → x.state.budget < x.state.txstat_bytes → hashed (with_sums x.state.analog 0 x.state) x.hashes ≡ evict_rows m n x
unfolding evict_rows
none_left m n x z l = sym (ap (λ j. evict_rows m j x) z ∙ rw (lt-ltb _ _ l))

evict_turn : (m : Rows) (n : ℕ) (x : Hashed) → 0 < n → x.state.budget < x.state.txstat_bytes → evict_rows m n x ≡ evict_rows m (n - 1) (evict_oldest m x)
unfolding evict_rows
evict_turn m zero x p l = absurd (omega arith)
evict_turn m (suc n) x p l = let e : suc n - 1 ≡ n = omega arith in rw (e, lt-ltb _ _ l)

-- a turn of the loop
pub going_on : (m : Rows) (h k q r : ℕ) (goal x y : Hashed) → Going m h k q r goal x → 0 < x.state.count → x.state.budget < x.state.txstat_bytes → y ≡ evict_oldest m x → Going m h k q r goal y
unfolding evict_row
going_on m h k q r goal x y g p l e =
    subst (Going m h k q r goal) (sym e)
    record {
      small = omega (arith, g.small);
      heights = omega (arith, g.heights);
      marks = omega (arith, g.marks);
      rates = omega (arith, g.rates);
      sizes = omega (arith, g.sizes);
      room = remove-room (get_or m.heights x.state.start 0) (hash_list x.state.hashes x.hashes) g.room;
      same = sym (evict_turn m x.state.count x p l) ∙ g.same;
    }

pub evicted-start : (height mark size : ℕ) (x : Hashed) → (evict_row height mark size x).state.start ≡ x.state.start + 1
unfolding evict_row
evicted-start height mark size x = refl

pub evicted-count : (height mark size : ℕ) (x : Hashed) → (evict_row height mark size x).state.count ≡ x.state.count - 1
unfolding evict_row
evicted-count height mark size x = refl
