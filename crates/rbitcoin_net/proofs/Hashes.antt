-- The kept hashes: what the code's steps are by the definitions. Assumes nothing.
use Prim.Native.Nat.{ℕ, ◌+◌, ◌-◌, ◌≤◌}
use mathlib.Core.Path.{◌≡◌, refl, sym, ◌∙◌, ap}
use mathlib.Core.Bool.{cond}
use mathlib.Core.List.{List, ◌++◌, append-nil, append_assoc}
use native.Mathlib.Omega.{arith}
use lib.ListN.{length, take, drop, length-drop}
use lib.Seq.{drop-drop, drop-length, length-take-le}
use borrow.Author.Tests.{le-leb}
use Rattle.slices.specs.Lists.{copy_front}
use Rattle.slices.specs.Search.{bisect, lower_bound}
use Rattle.slices.proofs.Bisect.{lower_bound_is}
use Rattle.rbitcoin_net.specs.Search.{is_at}
use Rattle.rbitcoin_net.specs.Hashes.{HashList, hash_list, moved_hashes, hash_place, remove_at, remove_hash}

-- a list copied over one of the same length
over : (xs ys : List ℕ) → length ys ≡ length xs → copy_front xs ys ≡ ys
unfolding copy_front
over xs ys e =
    let h : length ys ≤ length xs = omega arith in
    rw (le-leb (length ys) (length xs) h) (ap (λ k. ys ++ drop k xs) e ∙ ap (λ v. ys ++ v) (drop-length xs) ∙ append-nil ys)

-- 32 bytes put at a place, by way of a part of the list
pub put-bytes : (xs hash : List ℕ) (a : ℕ) → length hash ≡ 32 → a + 32 ≤ length xs
    → take a xs ++ (copy_front (take (a + 32 - a) (drop a xs)) hash ++ drop (a + 32 - a) (drop a xs)) ≡ take a xs ++ hash ++ drop (a + 32) xs
put-bytes xs hash a l h =
    let d : a + 32 - a ≡ 32 = omega arith in
    let p : length (take 32 (drop a xs)) ≡ 32 = length-take-le 32 (drop a xs) (rw length-drop (omega arith)) in
    ap (λ k. take a xs ++ (copy_front (take k (drop a xs)) hash ++ drop k (drop a xs))) d
    ∙ ap (λ v. take a xs ++ (v ++ drop 32 (drop a xs))) (over (take 32 (drop a xs)) hash (l ∙ sym p))
    ∙ ap (λ v. take a xs ++ (hash ++ v)) (drop-drop 32 a xs)
    ∙ sym (append_assoc (take a xs) hash (drop (a + 32) xs))

module _ (h : ℕ) (k : HashList) where
  pub hash-place-is : (q : ℕ) → q ≡ bisect (k.count - 0) k.lists.heights h 0 k.count → q ≡ hash_place h k
  unfolding hash_place
  hash-place-is q e = let d : k.count - 0 ≡ k.count = omega arith in e ∙ ap (λ n. bisect n k.lists.heights h 0 k.count) d

  -- of hashes that reach their end
  pub hash_found : (q : ℕ) → q ≡ lower_bound k.lists.heights 0 k.count h → k.count ≤ length k.lists.heights → q ≡ hash_place h k
  hash_found q e l = hash-place-is q (e ∙ lower_bound_is k.lists.heights 0 k.count h l)

  pub remove_is : remove_hash h k ≡ cond (is_at k.lists.heights k.count h (hash_place h k))
      (hash_list (k.count - 1) (moved_hashes (hash_place h k) (hash_place h k + 1) (k.count - hash_place h k - 1) k.lists)) k
  unfolding remove_hash remove_at
  remove_is = refl
