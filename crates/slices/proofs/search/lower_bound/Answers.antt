-- `search::lower_bound` meets its contract: each turn is one of the definition's. Assumes nothing.
use Prim.Native.Nat.{ℕ, ◌+◌, ◌-◌, ◌/◌, ◌≤◌, ◌<◌}
use mathlib.Core.Bool.{true, false}
use mathlib.Core.List.{List}
use mathlib.Core.Path.{◌≡◌, subst, sym}
use native.Mathlib.Omega.{arith}
use borrow.Author.Tests.{ltb-true, ltb-false}
use lib.Dec.{ltb}
use lib.ListN.{get_or, length}
use Rattle.std.proofs.Common.{min, max}
use Rattle.slices.proofs.Halving.{at_most_one, at_most, halved}
use Rattle.slices.specs.Search.{lower_bound}
use Rattle.slices.proofs.Bisect.{Turns, started, go_right, go_left, ended}
use Rattle.slices.proofs.search.lower_bound.Goals as goal

abbrev Left : List ℕ → ℕ → ℕ → ℕ → ℕ → ℕ → Type 0
Left xs h lo hi a b = Turns xs h a b (lower_bound xs lo hi h) × (a ≤ b) × (b ≤ max lo (min hi (length xs))) × (lo ≤ a)

module _ (xs : List ℕ) (h lo hi a n : ℕ) (more : 0 < n) (v : Left xs h lo hi a (a + n)) where
  abbrev found : ℕ
  found = lower_bound xs lo hi h

  middle : a + (a + n - a) / 2 ≡ a + n / 2
  middle = omega arith

  up : ltb (get_or xs (a + n / 2) 0) h ≡ true → Left xs h lo hi (a + n / 2 + 1) (a + n)
  up e =
      let low : get_or xs (a + (a + n - a) / 2) 0 < h = subst (λ (z : ℕ). get_or xs z 0 < h) (sym middle) (ltb-true (get_or xs (a + n / 2) 0) h e) in
      (subst (λ (z : ℕ). Turns xs h (z + 1) (a + n) found) middle (go_right xs h a (a + n) found (omega arith) v.0 low), omega arith, v.2, omega (arith, v.3))

  down : ltb (get_or xs (a + n / 2) 0) h ≡ false → Left xs h lo hi a (a + n / 2)
  down e =
      let high : h ≤ get_or xs (a + (a + n - a) / 2) 0 = subst (λ (z : ℕ). h ≤ get_or xs z 0) (sym middle) (ltb-false (get_or xs (a + n / 2) 0) h e) in
      (subst (λ (z : ℕ). Turns xs h a z found) middle (go_left xs h a (a + n) found (omega arith) v.0 high), omega arith, omega (arith, v.2), v.3)

pub loop-size-init : goal.loop-size-init
unfolding lower_bound
loop-size-init c =
    let xs = c.args.xs.now in
    let end = min c.args.hi (length xs) in
    let e : c.saturating_sub-size.result ≡ end - c.args.lo = omega arith in
    (rw e (started xs c.args.v c.args.lo end), omega arith, omega arith, omega arith)

pub overflow_add-less : goal.overflow_add-less
overflow_add-less c = omega arith

pub offset_bounds-xs-base : goal.offset_bounds-xs-base
offset_bounds-xs-base c = omega arith

pub overflow_add-base : goal.overflow_add-base
overflow_add-base c = omega arith

pub overflow_mul-base : goal.overflow_mul-base
overflow_mul-base c = omega (arith, at_most (ltb (get_or c.args.xs.now (c.loop-size.base + c.loop-size.size / 2) 0) c.args.v) (c.loop-size.size / 2 + 1))

pub overflow_add-base-in-loop-size : goal.overflow_add-base-in-loop-size
overflow_add-base-in-loop-size c = omega (arith, at_most (ltb (get_or c.args.xs.now (c.loop-size.base + c.loop-size.size / 2) 0) c.args.v) (c.loop-size.size / 2 + 1))

pub overflow_sub-size : goal.overflow_sub-size
overflow_sub-size c = omega (arith, at_most_one (ltb (get_or c.args.xs.now (c.loop-size.base + c.loop-size.size / 2) 0) c.args.v))

pub loop-size-smaller : goal.loop-size-smaller
loop-size-smaller c = omega (arith, at_most_one (ltb (get_or c.args.xs.now (c.loop-size.base + c.loop-size.size / 2) 0) c.args.v))

pub loop-size-preserved : goal.loop-size-preserved
loop-size-preserved c =
    let xs = c.args.xs.now in
    let more : 0 < c.loop-size.size = omega arith in
    halved (Left xs c.args.v c.args.lo c.args.hi) c.loop-size.base c.loop-size.size (ltb (get_or xs (c.loop-size.base + c.loop-size.size / 2) 0) c.args.v) more
    (up xs c.args.v c.args.lo c.args.hi c.loop-size.base c.loop-size.size more c.loop-size.invariant)
    (down xs c.args.v c.args.lo c.args.hi c.loop-size.base c.loop-size.size more c.loop-size.invariant)

pub returns-clause-value : goal.returns-clause-value
returns-clause-value c = ended _ _ _ _ _ (omega arith) c.loop-size.invariant.0
