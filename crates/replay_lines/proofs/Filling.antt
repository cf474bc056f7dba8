-- One more read into what a buffer has room for. Assumes nothing.
use Rattle.std.proofs.Common.{◌≡◌, ℕ, ◌+◌, ◌≤◌, List, ◌++◌, length, take, Option, ap, ◌∙◌, subst, sym}
use Rattle.std.proofs.Math.Seq.{take-append-add}
use Rattle.std.proofs.lemmas.List.{take-append-le}
use Rattle.std.specs.Io.KnownBytes.{Consumes}
use Rattle.std.proofs.KnownBytes.{Consumes-trans}
use lib.Seq.{length-take-le}
use borrow.Rule.Slice.PartMut.{put_mid, post_of}

-- the first bytes of a buffer, n that stood there and k that were read behind them
pub front_and_read : (xs ys : List ℕ) (n m k : ℕ) → n ≤ length xs → k ≤ length ys → take (n + k) (put_mid n m xs ys) ≡ take n xs ++ take k ys
front_and_read xs ys n m k h g =
    let e : length (take n xs) ≡ n = length-take-le n xs h in
    ap (λ (i : ℕ). take (i + k) (put_mid n m xs ys)) (sym e)
    ∙ take-append-add (take n xs) (ys ++ post_of n m xs) k
    ∙ ap (λ (l : List ℕ). take n xs ++ l) (take-append-le k ys (post_of n m xs) g)

pub read_more : (had left rest : Option (List ℕ)) (xs ys : List ℕ) (n m k : ℕ) → n ≤ length xs → k ≤ length ys
    → Consumes had left (take n xs) → Consumes left rest (take k ys) → Consumes had rest (take (n + k) (put_mid n m xs ys))
read_more had left rest xs ys n m k h g p q =
    subst (λ (l : List ℕ). Consumes had rest l) (sym (front_and_read xs ys n m k h g)) (Consumes-trans had left rest (take n xs) (take k ys) p q)
