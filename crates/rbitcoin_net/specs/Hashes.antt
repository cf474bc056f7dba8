-- The kept hashes in lent memory, sorted by height from the first place on: what each step does to every place of it. Definitions only.
use Rattle.std.specs.Prelude.{ℕ, ◌+◌, ◌-◌, ◌*◌, ◌≤◌, ◌≡◌, cond, List, ◌++◌, ltb, eqb, length, set, take, drop}
use Rattle.std.proofs.Math.Option.{Option, none, some}
use Rattle.slices.specs.Lists.{moved}
use Rattle.rbitcoin_net.specs.Lent.{Hashes, hashes}
use Rattle.slices.specs.Search.{bisect}
use Rattle.rbitcoin_net.specs.Search.{is_at}
use Rattle.std.specs.Prelude.{Some, None}
use Rattle.std.specs.declared.option.Option as rust
use Rattle.rbitcoin_net.specs.declared.fee_history.block_hash.BlockHash.{BlockHash}

-- the number of hashes, with the two lists
pub record HashList : Type 0 where
  pub count : ℕ
  pub lists : Hashes

abbrev pub hash_list : ℕ → Hashes → HashList
hash_list n z = record { count = n; lists = z }

-- a hash that is there, or none
abbrev pub hash_of : rust.Option BlockHash → Option (List ℕ)
hash_of (Some b) = some b.bytes
hash_of None = none

-- a hash of 32 bytes, if it is there
abbrev pub Whole32 : Option (List ℕ) → Type 0
Whole32 none = Unit
Whole32 (some bytes) = length bytes ≡ 32

-- the lists reach 144 heights and as many hashes, and no more are kept
pub record Room (k : HashList) : Type 0 where
  pub few : k.count ≤ 144
  pub heights : 144 ≤ length k.lists.heights
  pub bytes : 4608 ≤ length k.lists.bytes

-- n hashes at place `from`, also at place `to`
abbrev pub moved_hashes : ℕ → ℕ → ℕ → Hashes → Hashes
moved_hashes to from n z = hashes (moved z.heights to from n) (moved z.bytes (32 * to) (32 * from) (32 * n))

-- a hash put at a place
abbrev pub put_hash : ℕ → ℕ → List ℕ → Hashes → Hashes
put_hash q h bytes z = hashes (set z.heights q h) (take (32 * q) z.bytes ++ bytes ++ drop (32 * q + 32) z.bytes)

-- the place of a height
unfoldable pub hash_place : ℕ → HashList → ℕ
hash_place h k = bisect k.count k.lists.heights h 0 k.count

-- `hashes.remove`
unfoldable pub remove_at : ℕ → HashList → HashList
remove_at q k = hash_list (k.count - 1) (moved_hashes q (q + 1) (k.count - q - 1) k.lists)

unfoldable pub remove_hash : ℕ → HashList → HashList
remove_hash h k = cond (is_at k.lists.heights k.count h (hash_place h k)) (remove_at (hash_place h k) k) k

-- `note_hash` at a place: replaced where the height is kept; put in where fewer than 144 are; else the oldest goes, the new one itself where it is
unfoldable pub note_at : ℕ → ℕ → List ℕ → HashList → HashList
note_at q h bytes k =
    cond (is_at k.lists.heights k.count h q) (hash_list k.count (put_hash q h bytes k.lists))
    (cond (ltb k.count 144) (hash_list (k.count + 1) (put_hash q h bytes (moved_hashes (q + 1) q (k.count - q) k.lists)))
    (cond (eqb q 0) k
    (hash_list k.count (put_hash (q - 1) h bytes (moved_hashes 0 1 (q - 1) k.lists)))))

abbrev pub note_hash_in : ℕ → Option (List ℕ) → HashList → HashList
note_hash_in h none k = k
note_hash_in h (some bytes) k = note_at (hash_place h k) h bytes k
