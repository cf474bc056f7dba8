-- `insert` and `insert_if_absent`: the code's steps by the definitions. Assumes nothing.
use Prim.Native.Nat.{ℕ, zero, suc, ◌+◌, ◌-◌, ◌≤◌}
use mathlib.Core.Path.{◌≡◌, refl, sym, ◌∙◌, ap, subst}
use mathlib.Core.Bool.{Bool, true, false, cond}
use mathlib.Core.List.{List}
use mathlib.Core.Option.{Option, none, some}
use native.Mathlib.Omega.{arith}
use lib.Dec.{ltb}
use lib.ListN.{length, get_or}
use borrow.Author.Tests.{ltb-true}
use Rattle.std.specs.declared.option.Option as rust
use Rattle.std.specs.Prelude.{Some, None}
use Rattle.rbitcoin_mempool.specs.Rates.{mark_of, number_of}
use Rattle.rbitcoin_net.specs.declared.fee_history.block_hash.BlockHash.{BlockHash}
use Rattle.rbitcoin_net.specs.declared.fee_history.HistoricalFeeBlock.{HistoricalFeeBlock}
use Rattle.rbitcoin_net.specs.declared.fee_history.FeeHistory.{FeeHistory}
use Rattle.rbitcoin_net.specs.History.{hurdle_of}
use Rattle.rbitcoin_net.specs.Lent.{Rows, rows, Hashes}
use Rattle.slices.specs.Search.{bisect}
use Rattle.rbitcoin_net.specs.Hashes.{HashList, hash_list, Room, Whole32, hash_of, hash_place, note_hash_in}
use Rattle.rbitcoin_net.specs.Cuts.{with_hashes}
use Rattle.rbitcoin_net.specs.Rooms.{start_with, Stored, stored, hold_at, Roomy}
use Rattle.rbitcoin_net.specs.Evictions.{Hashed, hashed, evict_in}
use Rattle.rbitcoin_net.specs.Inserts.{Filed, filed, store_in}
use Rattle.slices.proofs.Bisect.{mid}
use Rattle.rbitcoin_net.proofs.Rooms.{row_put-long, start-room, source, target}
use Rattle.rbitcoin_net.proofs.HashViews.{note-room}

-- ---- a hash noted leaves room, whatever the memory

pub bisect-within : (hs : List ℕ) (h k lo hi : ℕ) → lo ≤ hi → bisect k hs h lo hi ≤ hi
unfolding bisect
bisect-within hs h zero lo hi l = l
bisect-within hs h (suc k) lo hi l = go (ltb lo hi) refl (ltb (get_or hs (mid lo hi) 0) h) (λ a b. bisect-within hs h k a b)
  where
    go : (a : Bool) → ltb lo hi ≡ a → (b : Bool) → ((c d : ℕ) → c ≤ d → bisect k hs h c d ≤ d) → cond a (cond b (bisect k hs h (mid lo hi + 1) hi) (bisect k hs h lo (mid lo hi))) lo ≤ hi
    go true e true f = let o = ltb-true lo hi e in f (mid lo hi + 1) hi (omega arith)
    go true e false f = let o = ltb-true lo hi e in let r = f lo (mid lo hi) (omega arith) in omega arith
    go false e b f = l

noted-room : (h : ℕ) (hash : Option (List ℕ)) → Whole32 hash → (k : HashList) → Room k → Room (note_hash_in h hash k)
unfolding hash_place
noted-room h none len k r = r
noted-room h (some bytes) len k r = note-room (hash_place h k) h bytes len k r (bisect-within k.lists.heights h k.count 0 k.count (omega arith))

-- a hash that is there has 32 bytes
pub hash-whole : (b : rust.Option BlockHash) → Whole32 (hash_of b)
hash-whole (Some b) = b.whole
hash-whole None = record {}

-- ---- the three steps

module _ (q h : ℕ) (b : HistoricalFeeBlock) (s : FeeHistory) (m : Rows) where
  -- the held row leaves the hashes
  pub hold-room : (t : FeeHistory) (n : Rows) (z : Hashes) → stored t n ≡ hold_at q h b (stored s m) → Room (hash_list s.hashes z) → Room (hash_list t.hashes z)
  unfolding hold_at
  hold-room t n z e r = subst (λ k. Room (hash_list k z)) (sym (ap (λ (y : Stored). y.state.hashes) e)) r

  -- rows that lie in their lists
  abbrev Lies : Stored → Type 0
  Lies y = (y.state.start + y.state.count ≤ 65536) × (y.state.start + y.state.count ≤ length y.rows.heights) × (y.state.start + y.state.count ≤ length y.rows.marks) × (y.state.start + y.state.count ≤ length y.rows.rates) × (y.state.start + y.state.count ≤ length y.rows.sizes)

  module _ (p : Roomy q s (length m.heights) (length m.marks) (length m.rates) (length m.sizes)) where
    lies : Lies (hold_at q h b (stored s m))
    unfolding hold_at
    lies =
        let l = start-room q h b s m p in
        let n = s.count - q in
        let to = start_with s q in
        let a = row_put-long m.heights s.start to q n (source q h b s m p _ p.heights) (target q h b s m p _ p.heights) 0 h in
        let d = row_put-long m.marks s.start to q n (source q h b s m p _ p.marks) (target q h b s m p _ p.marks) 0 (mark_of (hurdle_of b)) in
        let f = row_put-long m.rates s.start to q n (source q h b s m p _ p.rates) (target q h b s m p _ p.rates) 0 (number_of (hurdle_of b)) in
        let g = row_put-long m.sizes s.start to q n (source q h b s m p _ p.sizes) (target q h b s m p _ p.sizes) 0 b.txstat_bytes in
        (omega (arith, p.small), omega (arith, p.heights), omega (arith, p.marks), omega (arith, p.rates), omega (arith, p.sizes))

    pub evict_ready : (t : FeeHistory) (n : Rows) → stored t n ≡ hold_at q h b (stored s m) → Lies (stored t n)
    evict_ready t n e = subst Lies (sym e) lies

pub note_ready : (h c n : ℕ) (hash : rust.Option BlockHash) (z y : Hashes) → hash_list n y ≡ note_hash_in h (hash_of hash) (hash_list c z) → Room (hash_list c z) → Room (hash_list n y)
note_ready h c n hash z y e r = subst Room (sym e) (noted-room h (hash_of hash) (hash-whole hash) (hash_list c z) r)

pub stored_all : (q h : ℕ) (b : HistoricalFeeBlock) (hash : Option (List ℕ)) (s t r : FeeHistory) (m : Rows) (z : Hashes) (hs ms rs zs : List ℕ) (y x : Hashes) (n : ℕ)
    → stored t (rows hs ms rs zs) ≡ hold_at q h b (stored s m) → hash_list n y ≡ note_hash_in h hash (hash_list t.hashes z) → hashed r x ≡ evict_in (rows hs ms rs zs) (hashed (with_hashes n t) y)
    → filed r (rows hs ms rs zs) x ≡ store_in q h b hash (filed s m z)
unfolding store_in
stored_all q h b hash s t r m z hs ms rs zs y x n e d f =
    let after : Stored → HashList → Filed = λ o k. (let v = evict_in o.rows (hashed (with_hashes k.count o.state) k.lists) in filed v.state o.rows v.hashes) in
    ap (λ (v : Hashed). filed v.state (rows hs ms rs zs) v.hashes) f
    ∙ ap (after (stored t (rows hs ms rs zs))) d
    ∙ ap (λ (o : Stored). after o (note_hash_in h hash (hash_list o.state.hashes z))) e
