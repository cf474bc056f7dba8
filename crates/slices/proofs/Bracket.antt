-- A range of values that has the element at k of the sorted list, as bisection narrows it. Assumes nothing.
use Rattle.std.proofs.Common.{◌≡◌, ℕ, zero, suc, ◌+◌, ◌-◌, ◌^◌, ◌<◌, ◌≤◌, List, length, get_or, sym, ap, ◌∙◌, zero-le, add-one, arith}
use Rattle.slices.specs.Sorted.{sorted, at_most, below, in_range, Least, Most}
use Rattle.slices.proofs.Sorting.{at_most-none, at_most_all, kth-at_most, kth-above, kth-least, kth_most}
use Rattle.slices.proofs.Tallies.{none_below, below_suc}
use Rattle.slices.proofs.Between.{between-length, kth-between}

-- the element lies from lo to hi, `under` elements are below lo, and `upto` are at most hi
pub record Bracket (xs : List ℕ) (k lo hi under upto : ℕ) : Type 0 where
  pub low : lo ≤ get_or (sorted xs) k 0
  pub high : get_or (sorted xs) k 0 ≤ hi
  pub fits : hi < 2 ^ 64
  pub before : under ≡ below lo xs
  pub to : upto ≡ at_most hi xs
  pub from : under ≤ k
  pub past : k < upto

least-below : (xs : List ℕ) (v : ℕ) → Least v xs → below v xs ≡ 0
least-below xs zero l = none_below xs
least-below xs (suc v) l = below_suc v xs ∙ at_most-none v xs l

module _ (xs : List ℕ) (k lo hi : ℕ) where
  pub bracket : k < length xs → Least lo xs → Most hi xs → hi < 2 ^ 64 → Bracket xs k lo hi 0 (length xs)
  bracket r l m f =
      record {
        low = kth-least xs k lo r l;
        high = kth_most xs k hi r m;
        fits = f;
        before = sym (least-below xs lo l);
        to = sym (at_most_all hi xs m);
        from = zero-le;
        past = r;
      }

  module _ (under upto : ℕ) (b : Bracket xs k lo hi under upto) where
    pub lower-half : (mid n : ℕ) → mid < hi → n ≡ at_most mid xs → k < n → Bracket xs k lo mid under n
    lower-half mid n h e r =
        record {
          low = b.low;
          high = kth-at_most xs k mid (rw e at r);
          fits = omega (arith, b.fits);
          before = b.before;
          to = e;
          from = b.from;
          past = r;
        }

    pub upper-half : (mid n : ℕ) → k < length xs → n ≡ at_most mid xs → n ≤ k → Bracket xs k (mid + 1) hi n upto
    upper-half mid n l e r =
        record {
          low = omega (arith, kth-above xs k mid l (rw e at r));
          high = b.high;
          fits = b.fits;
          before = e ∙ rw add-one (sym (below_suc mid xs));
          to = b.to;
          from = r;
          past = b.past;
        }

    -- it is one of those between, counted from the first of them
    pub chosen : lo ≤ hi → get_or (sorted (in_range lo hi xs)) (k - under) 0 ≡ get_or (sorted xs) k 0
    chosen h =
        let e : below lo xs + (k - under) ≡ k = omega (arith, b.before, b.from) in
        kth-between lo hi h xs (k - under) (omega (arith, between-length lo hi h xs, b.before, b.to, b.from, b.past))
        ∙ ap (λ j. get_or (sorted xs) j 0) e

    pub left : lo ≤ hi → length (in_range lo hi xs) ≡ upto - under
    left h = omega (arith, between-length lo hi h xs, b.before, b.to)
