-- The kept hashes as the Rust's map: what a dropped hash and a new one do to it. Assumes nothing.
use Prim.Native.Nat.{ℕ, suc, ◌+◌, ◌-◌, ◌*◌, ◌≤◌, ◌<◌}
use mathlib.Core.Path.{◌≡◌, refl, sym, ◌∙◌, ap}
use mathlib.Core.Bool.{Bool, true, false, cond}
use mathlib.Core.List.{List, ◌∷◌, ◌++◌}
use native.Mathlib.Omega.{arith}
use lib.Dec.{ltb, eqb}
use borrow.Author.Tests.{ltb-true, ltb-false, eqb-true, eqb-false}
use lib.ListN.{length, get_or, take, drop, length-append, length-set, length-drop, get_or-append}
use lib.Seq.{get_or-set_same, get_or-set_other, get_or-take, get_or-drop, get_or-append-add, length-take-le}
use Rattle.slices.specs.Lists.{tabulate}
use Rattle.slices.proofs.Lists.{tabulate-is, tabulate-length}
use Rattle.slices.proofs.Runs.{length_moved, moved-below, moved_in, moved-above}
use Rattle.rbitcoin_net.specs.Map.{Entry, entry, Ascends, remove, insert}
use Rattle.rbitcoin_net.specs.History.{newest}
use Rattle.rbitcoin_net.specs.Lent.{Hashes, hash_at, hashes_in}
use Rattle.rbitcoin_net.specs.Search.{is_at}
use Rattle.rbitcoin_net.specs.Hashes.{HashList, hash_list, Room, moved_hashes, put_hash, hash_place, remove_at, remove_hash, note_at}
use Rattle.rbitcoin_net.proofs.Tables.{either, Parts, table-add, table_ext, table-split, ascends_rising, ascends-at, ascends_of, remove-found, remove_absent, insert-found, insert_absent}
use Rattle.rbitcoin_net.proofs.Search.{bisect_parts, is-at-true, is-at-false}

-- two hashes by their elements
hash_ext : (y z : Hashes) (i j : ℕ) → get_or y.heights i 0 ≡ get_or z.heights j 0 → ((k : ℕ) → k < 32 → get_or y.bytes (32 * i + k) 0 ≡ get_or z.bytes (32 * j + k) 0) → hash_at y i ≡ hash_at z j
hash_ext y z i j e d = λ t. entry (e t) (table_ext (λ l. get_or y.bytes l 0) (λ l. get_or z.bytes l 0) 32 (32 * i) (32 * j) d t)

-- where each hash stands after a move
module _ (z : Hashes) (to from n : ℕ) (hl : 144 ≤ length z.heights) (bl : 4608 ≤ length z.bytes) (a : to + n ≤ 144) (b : from + n ≤ 144) where
  pub hash-below : (i : ℕ) → i < to → hash_at (moved_hashes to from n z) i ≡ hash_at z i
  hash-below i l =
      hash_ext (moved_hashes to from n z) z i i (moved-below z.heights to from n 0 (omega arith) (omega arith) i l)
      (λ k m. moved-below z.bytes (32 * to) (32 * from) (32 * n) 0 (omega arith) (omega arith) (32 * i + k) (omega arith))

  pub hash_in : (i : ℕ) → i < n → hash_at (moved_hashes to from n z) (to + i) ≡ hash_at z (from + i)
  hash_in i l =
      hash_ext (moved_hashes to from n z) z (to + i) (from + i) (moved_in z.heights to from n 0 (omega arith) (omega arith) i l)
      (λ k m.
      let e : 32 * (to + i) + k ≡ 32 * to + (32 * i + k) = omega arith in
      let d : 32 * (from + i) + k ≡ 32 * from + (32 * i + k) = omega arith in
      rw (e, d) (moved_in z.bytes (32 * to) (32 * from) (32 * n) 0 (omega arith) (omega arith) (32 * i + k) (omega arith)))

  pub hash-above : (i : ℕ) → to + n ≤ i → hash_at (moved_hashes to from n z) i ≡ hash_at z i
  hash-above i l =
      hash_ext (moved_hashes to from n z) z i i (moved-above z.heights to from n 0 (omega arith) (omega arith) i l)
      (λ k m. moved-above z.bytes (32 * to) (32 * from) (32 * n) 0 (omega arith) (omega arith) (32 * i + k) (omega arith))

module _ (h : ℕ) (k : HashList) (room : Room k) (asc : Ascends (hashes_in k.count k.lists)) where
  abbrev f : ℕ → Entry (List ℕ)
  f = hash_at k.lists

  abbrev q : ℕ
  q = hash_place h k

  parts : Parts (λ i. (f i).key) h 0 (0 + k.count) q
  unfolding hash_place hashes_in
  parts =
      let p = bisect_parts k.lists.heights h k.count 0 k.count (λ i j a b c. ascends_rising f k.count 0 asc i j a b (omega arith)) (omega arith) (omega arith) in
      record { low = p.low; high = omega (arith, p.high); before = p.before; behind = λ i l o. p.behind i l (omega arith) }

  removed : is_at k.lists.heights k.count h q ≡ true → hashes_in (remove_at q k).count (remove_at q k).lists ≡ remove h (hashes_in k.count k.lists)
  unfolding hashes_in remove_at
  removed t =
      let x = is-at-true k.lists.heights k.count h q t in
      let l : q < k.count = x.0 in
      let z = k.lists in
      let y = moved_hashes q (q + 1) (k.count - q - 1) z in
      let r = room.few in
      let low = table_ext (hash_at y) f q 0 0 (λ i o. let e : 0 + i ≡ i = omega arith in rw e (hash-below z q (q + 1) (k.count - q - 1) room.heights room.bytes (omega arith) (omega arith) i o)) in
      let high = table_ext (hash_at y) f (k.count - 1 - q) q (suc q)
      (λ i o.
      let e : q + 1 + i ≡ suc q + i = omega arith in
      rw (← e) (hash_in z q (q + 1) (k.count - q - 1) room.heights room.bytes (omega arith) (omega arith) i (omega arith))) in
      let d : 0 + k.count - suc q ≡ k.count - 1 - q = omega arith in
      let u : q - 0 ≡ q = omega arith in
      let v : 0 + (k.count - 1) - q ≡ k.count - 1 - q = omega arith in
      table-split (hash_at y) 0 (k.count - 1) q (omega arith) (omega arith)
      ∙ (λ j. tabulate (hash_at y) 0 (u j) ++ tabulate (hash_at y) q (v j))
      ∙ (λ j. low j ++ high j)
      ∙ sym (λ j. tabulate f 0 (u j) ++ tabulate f (suc q) (d j))
      ∙ sym (remove-found f h 0 k.count q asc parts (omega arith) x.1)

  -- and they still ascend
  gone-ascends : is_at k.lists.heights k.count h q ≡ true → Ascends (hashes_in (remove_at q k).count (remove_at q k).lists)
  unfolding hashes_in remove_at
  gone-ascends t =
      let l : q < k.count = (is-at-true k.lists.heights k.count h q t).0 in
      let z = k.lists in
      let n = k.count in
      let y = moved_hashes q (q + 1) (n - q - 1) z in
      let r = room.few in
      let key : Entry (List ℕ) → ℕ = λ e. e.key in
      let early : (i : ℕ) → i < q → key (hash_at y i) ≡ key (f i) = λ i o. ap key (hash-below z q (q + 1) (n - q - 1) room.heights room.bytes (omega arith) (omega arith) i o) in
      let late : (i : ℕ) → q ≤ i → i < n - 1 → key (hash_at y i) ≡ key (f (suc i)) = λ i o w.
      let a : q + (i - q) ≡ i = omega arith in
      let b : q + 1 + (i - q) ≡ suc i = omega arith in
      ap (λ j. key (hash_at y j)) (sym a) ∙ ap key (hash_in z q (q + 1) (n - q - 1) room.heights room.bytes (omega arith) (omega arith) (i - q) (omega arith)) ∙ ap (λ j. key (f j)) b in
      ascends_of (hash_at y) (n - 1) 0
      (λ i j a o b.
      either j q
      (λ u. rw (early i (omega arith), early j u) (ascends-at f n 0 asc i j a o (omega arith)))
      (λ u. either i q
      (λ w. rw (early i w, late j u (omega arith)) (ascends-at f n 0 asc i (suc j) a (omega arith) (omega arith)))
      (λ w. rw (late i w (omega arith), late j u (omega arith)) (ascends-at f n 0 asc (suc i) (suc j) (omega arith) (omega arith) (omega arith)))))

  pub remove-ascends : Ascends (hashes_in (remove_hash h k).count (remove_hash h k).lists)
  unfolding remove_hash
  remove-ascends = go (is_at k.lists.heights k.count h q) refl
    where
      go : (b : Bool) → is_at k.lists.heights k.count h q ≡ b → Ascends (hashes_in (cond b (remove_at q k) k).count (cond b (remove_at q k) k).lists)
      go true t = gone-ascends t
      go false t = asc

  absent : is_at k.lists.heights k.count h q ≡ false → hashes_in k.count k.lists ≡ remove h (hashes_in k.count k.lists)
  unfolding hashes_in
  absent t = sym (remove_absent f h 0 k.count q asc parts (λ l e. is-at-false k.lists.heights k.count h q t (omega arith) e))

  -- `hashes.remove`
  pub remove-view : hashes_in (remove_hash h k).count (remove_hash h k).lists ≡ remove h (hashes_in k.count k.lists)
  unfolding remove_hash
  remove-view = go (is_at k.lists.heights k.count h q) refl
    where
      go : (b : Bool) → is_at k.lists.heights k.count h q ≡ b → hashes_in (cond b (remove_at q k) k).count (cond b (remove_at q k) k).lists ≡ remove h (hashes_in k.count k.lists)
      go true t = removed t
      go false t = absent t

-- ---- a hash put at a place

module _ (xs ys : List ℕ) (a : ℕ) (h : a + length ys ≤ length xs) where
  abbrev over : List ℕ
  over = take a xs ++ ys ++ drop (a + length ys) xs

  front_long : length (take a xs) ≡ a
  front_long = length-take-le a xs (omega arith)

  both_long : length (take a xs ++ ys) ≡ a + length ys
  both_long = length-append (take a xs) ys ∙ ap (λ n. n + length ys) front_long

  over_below : (i : ℕ) → i < a → get_or over i 0 ≡ get_or xs i 0
  over_below i l =
      let f = front_long in
      let b = both_long in
      get_or-append (take a xs ++ ys) (drop (a + length ys) xs) 0 i (omega arith) ∙ get_or-append (take a xs) ys 0 i (omega arith) ∙ get_or-take a xs i 0 l

  over_in : (i : ℕ) → i < length ys → get_or over (a + i) 0 ≡ get_or ys i 0
  over_in i l =
      let b = both_long in
      get_or-append (take a xs ++ ys) (drop (a + length ys) xs) 0 (a + i) (omega arith)
      ∙ ap (λ n. get_or (take a xs ++ ys) (n + i) 0) (sym front_long)
      ∙ get_or-append-add (take a xs) ys i 0

  over-above : (i : ℕ) → a + length ys ≤ i → get_or over i 0 ≡ get_or xs i 0
  over-above i l =
      let b = both_long in
      let e : i ≡ length (take a xs ++ ys) + (i - (a + length ys)) = omega arith in
      let d : a + length ys + (i - (a + length ys)) ≡ i = omega arith in
      ap (λ n. get_or over n 0) e
      ∙ get_or-append-add (take a xs ++ ys) (drop (a + length ys) xs) (i - (a + length ys)) 0
      ∙ get_or-drop (a + length ys) xs (i - (a + length ys)) 0
      ∙ ap (λ n. get_or xs n 0) d

module _ (z : Hashes) (q h : ℕ) (bytes : List ℕ) (hl : 144 ≤ length z.heights) (bl : 4608 ≤ length z.bytes) (len : length bytes ≡ 32) (l : q < 144) where
  abbrev put : Hashes
  put = put_hash q h bytes z

  put_is : put.bytes ≡ over z.bytes bytes (32 * q) (omega arith)
  put_is = ap (λ n. take (32 * q) z.bytes ++ bytes ++ drop (32 * q + n) z.bytes) (sym len)

  pub put_there : (i : ℕ) → (i ≡ q → ⊥) → hash_at put i ≡ hash_at z i
  put_there i ne =
      hash_ext put z i i (get_or-set_other z.heights q i h 0 ne)
      (λ k m. ap (λ (v : List ℕ). get_or v (32 * i + k) 0) put_is
      ∙ either i q
      (λ o. over_below z.bytes bytes (32 * q) (omega arith) (32 * i + k) (omega arith))
      (λ o. either q i
      (λ w. over-above z.bytes bytes (32 * q) (omega arith) (32 * i + k) (omega arith))
      (λ w. absurd (ne (omega arith)))))

  pub put-here : hash_at put q ≡ entry h bytes
  put-here =
      let e = get_or-set_same z.heights q h 0 (omega arith) in
      let d =
      table_ext (λ j. get_or put.bytes j 0) (λ j. get_or bytes j 0) 32 (32 * q) 0
      (λ i m.
      let u : 0 + i ≡ i = omega arith in
      rw u (ap (λ (v : List ℕ). get_or v (32 * q + i) 0) put_is ∙ over_in z.bytes bytes (32 * q) (omega arith) i (omega arith)))
      ∙ sym (tabulate-is (λ j. get_or bytes j 0) 0 32 bytes len (λ k m. refl)) in
      λ t. entry (e t) (d t)

-- ---- the newest 144

few_stay : (xs : List (Entry (List ℕ))) → length xs ≤ 144 → newest xs ≡ xs
unfolding newest
few_stay xs h = let e : length xs - 144 ≡ 0 = omega arith in rw e

first_goes : (x : Entry (List ℕ)) (xs : List (Entry (List ℕ))) → length xs ≡ 144 → newest (x ∷ xs) ≡ xs
unfolding newest
first_goes x xs h =
    let e : length (x ∷ xs) - 144 ≡ 1 = omega arith in
    rw e

-- a table with one entry among another table's
among : (g f : ℕ → Entry (List ℕ)) (e : Entry (List ℕ)) (q r a b n : ℕ) → n ≡ q + suc r → ((i : ℕ) → i < q → g i ≡ f (a + i)) → g q ≡ e → ((i : ℕ) → i < r → g (suc q + i) ≡ f (b + i)) → tabulate g 0 n ≡ tabulate f a q ++ e ∷ tabulate f b r
unfolding tabulate
among g f e q r a b n s low here high =
    let z : 0 + q ≡ q = omega arith in
    ap (tabulate g 0) s
    ∙ table-add g q 0 (suc r)
    ∙ ap (λ k. tabulate g 0 q ++ tabulate g k (suc r)) z
    ∙ (λ j. table_ext g f q 0 a (λ i l. let u : 0 + i ≡ i = omega arith in rw u (low i l)) j ++ here j ∷ table_ext g f r (suc q) b high j)

pub moved-reach : (z : Hashes) (to from n : ℕ) → 144 ≤ length z.heights → 4608 ≤ length z.bytes → to + n ≤ 144 → from + n ≤ 144 → (144 ≤ length (moved_hashes to from n z).heights) × (4608 ≤ length (moved_hashes to from n z).bytes)
moved-reach z to from n hl bl a b =
    let e = length_moved z.heights to from n (omega arith) (omega arith) in
    let d = length_moved z.bytes (32 * to) (32 * from) (32 * n) (omega arith) (omega arith) in
    (omega arith, omega arith)

-- ---- `note_hash`

-- a hash put in leaves room
put-room : (z : Hashes) (c q h : ℕ) (bytes : List ℕ) → length bytes ≡ 32 → q < 144 → c ≤ 144 → 144 ≤ length z.heights → 4608 ≤ length z.bytes → Room (hash_list c (put_hash q h bytes z))
put-room z c q h bytes len l few hl bl =
    let e = length-set z.heights q h in
    let f = length-append (take (32 * q) z.bytes) bytes in
    let g = length-append (take (32 * q) z.bytes ++ bytes) (drop (32 * q + 32) z.bytes) in
    let a = length-take-le (32 * q) z.bytes (omega arith) in
    let d = length-drop (32 * q + 32) z.bytes in
    record { few = few; heights = omega arith; bytes = omega arith }

pub note-room : (q h : ℕ) (bytes : List ℕ) → length bytes ≡ 32 → (k : HashList) → Room k → q ≤ k.count → Room (note_at q h bytes k)
unfolding note_at
note-room q h bytes len k r l = go (is_at k.lists.heights k.count h q) refl (ltb k.count 144) refl (eqb q 0) refl
  where
    z : Hashes
    z = k.lists

    n : ℕ
    n = k.count

    between : n < 144 → Room (hash_list (n + 1) (put_hash q h bytes (moved_hashes (q + 1) q (n - q) z)))
    between u =
        let m = moved-reach z (q + 1) q (n - q) r.heights r.bytes (omega arith) (omega arith) in
        put-room (moved_hashes (q + 1) q (n - q) z) (n + 1) q h bytes len (omega arith) (omega arith) m.0 m.1

    over_oldest : (q ≡ 0 → ⊥) → Room (hash_list n (put_hash (q - 1) h bytes (moved_hashes 0 1 (q - 1) z)))
    over_oldest u =
        let f = r.few in
        let m = moved-reach z 0 1 (q - 1) r.heights r.bytes (omega arith) (omega arith) in
        put-room (moved_hashes 0 1 (q - 1) z) n (q - 1) h bytes len (omega arith) f m.0 m.1

    go : (a : Bool) → is_at z.heights n h q ≡ a → (b : Bool) → ltb n 144 ≡ b → (c : Bool) → eqb q 0 ≡ c
        → Room (cond a (hash_list n (put_hash q h bytes z)) (cond b (hash_list (n + 1) (put_hash q h bytes (moved_hashes (q + 1) q (n - q) z))) (cond c k (hash_list n (put_hash (q - 1) h bytes (moved_hashes 0 1 (q - 1) z))))))
    go true t b u c v = let f = r.few in let p = (is-at-true z.heights n h q t).0 in put-room z n q h bytes len (omega arith) f r.heights r.bytes
    go false t true u c v = between (ltb-true _ _ u)
    go false t false u true v = r
    go false t false u false v = over_oldest (eqb-false _ _ v)

module _ (h : ℕ) (bytes : List ℕ) (len : length bytes ≡ 32) (k : HashList) (room : Room k) (asc : Ascends (hashes_in k.count k.lists)) where
  abbrev z : Hashes
  z = k.lists

  abbrev n : ℕ
  n = k.count

  abbrev place : ℕ
  place = hash_place h k

  abbrev new : Entry (List ℕ)
  new = entry h bytes

  cut : Parts (λ i. (hash_at z i).key) h 0 (0 + n) place
  cut = parts h k room asc

  -- what a table that is the map's insert keeps
  kept_all : (y : Hashes) (c : ℕ) → c ≤ 144 → tabulate (hash_at y) 0 c ≡ insert h bytes (tabulate (hash_at z) 0 n) → tabulate (hash_at y) 0 c ≡ newest (insert h bytes (tabulate (hash_at z) 0 n))
  kept_all y c l e =
      let d : length (insert h bytes (tabulate (hash_at z) 0 n)) ≡ c = ap length (sym e) ∙ tabulate-length (hash_at y) 0 c in
      e ∙ sym (few_stay (insert h bytes (tabulate (hash_at z) 0 n)) (omega arith))

  note-found : is_at z.heights n h place ≡ true → tabulate (hash_at (put_hash place h bytes z)) 0 n ≡ newest (insert h bytes (tabulate (hash_at z) 0 n))
  unfolding hashes_in
  note-found t =
      let x = is-at-true z.heights n h place t in
      let l : place < n = x.0 in
      let r = room.few in
      let q : place < 144 = omega arith in
      let there = put_there z place h bytes room.heights room.bytes len q in
      let a =
      among (hash_at (put_hash place h bytes z)) (hash_at z) new place (n - suc place) 0 (suc place) n (omega arith)
      (λ i o. let u : 0 + i ≡ i = omega arith in rw u (there i (λ e. omega arith)))
      (put-here z place h bytes room.heights room.bytes len q)
      (λ i o. there (suc place + i) (λ e. omega arith)) in
      let u : place - 0 ≡ place = omega arith in
      let v : 0 + n - suc place ≡ n - suc place = omega arith in
      kept_all (put_hash place h bytes z) n r
      (a ∙ sym (λ j. tabulate (hash_at z) 0 (u j) ++ new ∷ tabulate (hash_at z) (suc place) (v j)) ∙ sym (insert-found (hash_at z) h 0 n place asc cut bytes (omega arith) x.1))

  module _ (t : is_at z.heights n h place ≡ false) where
    put_in : insert h bytes (tabulate (hash_at z) 0 n) ≡ tabulate (hash_at z) 0 place ++ new ∷ tabulate (hash_at z) place (n - place)
    unfolding hashes_in
    put_in =
        let u : place - 0 ≡ place = omega arith in
        let v : 0 + n - place ≡ n - place = omega arith in
        insert_absent (hash_at z) h 0 n place asc cut bytes (λ l e. is-at-false z.heights n h place t (omega arith) e)
        ∙ (λ j. tabulate (hash_at z) 0 (u j) ++ new ∷ tabulate (hash_at z) place (v j))

    note-between : n < 144 → tabulate (hash_at (put_hash place h bytes (moved_hashes (place + 1) place (n - place) z))) 0 (n + 1) ≡ newest (insert h bytes (tabulate (hash_at z) 0 n))
    note-between l =
        let c = cut.high in
        let w = moved_hashes (place + 1) place (n - place) z in
        let m = moved-reach z (place + 1) place (n - place) room.heights room.bytes (omega arith) (omega arith) in
        let q : place < 144 = omega arith in
        let there = put_there w place h bytes m.0 m.1 len q in
        let a =
        among (hash_at (put_hash place h bytes w)) (hash_at z) new place (n - place) 0 place (n + 1) (omega arith)
        (λ i o.
        let u : 0 + i ≡ i = omega arith in
        rw u (there i (λ e. omega arith) ∙ hash-below z (place + 1) place (n - place) room.heights room.bytes (omega arith) (omega arith) i (omega arith)))
        (put-here w place h bytes m.0 m.1 len q)
        (λ i o.
        let u : place + 1 + i ≡ suc place + i = omega arith in
        there (suc place + i) (λ e. omega arith) ∙ rw (← u) (hash_in z (place + 1) place (n - place) room.heights room.bytes (omega arith) (omega arith) i o)) in
        kept_all (put_hash place h bytes w) (n + 1) (omega arith) (a ∙ sym put_in)

    note_lowest : 144 ≤ n → place ≡ 0 → tabulate (hash_at z) 0 n ≡ newest (insert h bytes (tabulate (hash_at z) 0 n))
    unfolding tabulate
    note_lowest l e =
        let r = room.few in
        let d : length (tabulate (hash_at z) 0 n) ≡ 144 = tabulate-length (hash_at z) 0 n ∙ (let y : n ≡ 144 = omega arith in y) in
        sym
        (ap newest (put_in ∙ ap (λ p. tabulate (hash_at z) 0 p ++ new ∷ tabulate (hash_at z) p (n - p)) e)
        ∙ ap (λ c. newest (new ∷ tabulate (hash_at z) 0 c)) (let y : n - 0 ≡ n = omega arith in y)
        ∙ first_goes new (tabulate (hash_at z) 0 n) d)

    note-above : 144 ≤ n → (place ≡ 0 → ⊥) → tabulate (hash_at (put_hash (place - 1) h bytes (moved_hashes 0 1 (place - 1) z))) 0 n ≡ newest (insert h bytes (tabulate (hash_at z) 0 n))
    unfolding tabulate
    note-above l ne =
        let c = cut.high in
        let r = room.few in
        let p = place - 1 in
        let s : suc p ≡ place = omega arith in
        let w = moved_hashes 0 1 p z in
        let m = moved-reach z 0 1 p room.heights room.bytes (omega arith) (omega arith) in
        let q : p < 144 = omega arith in
        let there = put_there w p h bytes m.0 m.1 len q in
        let a =
        among (hash_at (put_hash p h bytes w)) (hash_at z) new p (n - place) 1 place n (omega arith)
        (λ i o.
        let u : 0 + i ≡ i = omega arith in
        there i (λ e. omega arith) ∙ ap (hash_at w) (sym u) ∙ hash_in z 0 1 p room.heights room.bytes (omega arith) (omega arith) i o)
        (put-here w p h bytes m.0 m.1 len q)
        (λ i o.
        let u : suc p + i ≡ place + i = omega arith in
        rw u (there (place + i) (λ e. omega arith) ∙ hash-above z 0 1 p room.heights room.bytes (omega arith) (omega arith) (place + i) (omega arith))) in
        let d : length (tabulate (hash_at z) 1 p ++ new ∷ tabulate (hash_at z) place (n - place)) ≡ 144 = ap length (sym a) ∙ tabulate-length (hash_at (put_hash p h bytes w)) 0 n ∙ (let y : n ≡ 144 = omega arith in y) in
        a
        ∙ sym
        (ap newest (put_in ∙ ap (λ j. tabulate (hash_at z) 0 j ++ new ∷ tabulate (hash_at z) place (n - place)) (sym s))
        ∙ first_goes (hash_at z 0) (tabulate (hash_at z) 1 p ++ new ∷ tabulate (hash_at z) place (n - place)) d)

  -- `hashes.insert`, and the newest 144
  pub note-view : hashes_in (note_at place h bytes k).count (note_at place h bytes k).lists ≡ newest (insert h bytes (hashes_in n z))
  unfolding note_at hashes_in
  note-view = go (is_at z.heights n h place) refl (ltb n 144) refl (eqb place 0) refl
    where
      go : (a : Bool) → is_at z.heights n h place ≡ a → (b : Bool) → ltb n 144 ≡ b → (c : Bool) → eqb place 0 ≡ c
          → (let r = cond a (hash_list n (put_hash place h bytes z)) (cond b (hash_list (n + 1) (put_hash place h bytes (moved_hashes (place + 1) place (n - place) z))) (cond c k (hash_list n (put_hash (place - 1) h bytes (moved_hashes 0 1 (place - 1) z))))) in tabulate (hash_at r.lists) 0 r.count ≡ newest (insert h bytes (tabulate (hash_at z) 0 n)))
      go true t b u c v = note-found t
      go false t true u c v = note-between t (ltb-true _ _ u)
      go false t false u true v = note_lowest t (ltb-false _ _ u) (eqb-true _ _ v)
      go false t false u false v = note-above t (ltb-false _ _ u) (eqb-false _ _ v)
