-- Document 01's exact line: the cases of the loop and of the lookup over fractions, with no rounding. A fraction is two natural numbers; no negative number occurs. Definitions only.
use Rattle.std.specs.Prelude.{◌≡◌, ℕ, ◌+◌, ◌-◌, ◌*◌, ◌^◌, ◌<◌, ◌≤◌, true, false, cond, List, [], ◌∷◌, length, ◌==◌, nat_le, slice_index_or, Float}
use Rattle.std.proofs.Math.Option.{Option, none, some}
use Rattle.std.specs.Float.{nan, inf, fin}
use Rattle.std.specs.Float.Ieee.{up, down, le}
use Rattle.slices.specs.Lists.{tabulate}
use Rattle.rbitcoin_mempool.specs.Rates.{rate_at}
use Rattle.rbitcoin_mempool.specs.Depths.{one64, blend_weight, flow_for_depth, or, cold_rate, clamped_share, floored}
use Rattle.rbitcoin_mempool.specs.Hold.{Args}
use Rattle.rbitcoin_mempool.specs.Target.{at_target}

pub record Frac : Type 0 where
  pub num : ℕ
  pub den : ℕ

abbrev pub as_frac : ℕ → Frac
as_frac n = record { num = n; den = 1 }

abbrev pub as_fracs : Option ℕ → Option Frac
as_fracs (some n) = some (as_frac n)
as_fracs none = none

-- a weight "is the f64 that the Rust's operations under the stand-ins give .., read as a fraction"; -0, and what is no number from 0 up, weighs 0
abbrev pub weight : Float → Frac
weight nan = as_frac 0
weight (inf s) = as_frac 0
weight (fin true m e) = as_frac 0
weight (fin false m e) = record { num = m * up e; den = down e }

-- from 0 to 1, or a zero with its sign set: both weights are, by the contract of `blend_weight` and by `share_in` of the clamped share
abbrev pub InUnit : Float → Type 0
InUnit nan = ⊥
InUnit (inf s) = ⊥
InUnit (fin true m e) = m * up e ≡ 0
InUnit (fin false m e) = m * up e ≤ down e

-- v·a + (1-v)·b, for a weight v at most 1
unfoldable pub blend : Frac → Frac → Frac → Frac
blend v a b = record { num = v.num * a.num * b.den + (v.den - v.num) * b.num * a.den; den = v.den * (a.den * b.den) }

-- the lesser and the greater of two fractions, by their cross products
abbrev pub lesser_frac : Frac → Frac → Frac
lesser_frac a b = cond (nat_le (a.num * b.den) (b.num * a.den)) a b

abbrev pub greater_frac : Frac → Frac → Frac
greater_frac a b = cond (nat_le (a.num * b.den) (b.num * a.den)) b a

-- n lies less than k from a fraction
pub record Within (k n : ℕ) (a : Frac) : Type 0 where
  pub pos : 0 < a.den
  pub over : n * a.den < a.num + k * a.den
  pub under : a.num < n * a.den + k * a.den

-- both missing, or both there and R of them
module _ {A B : Type 0} (R : A → B → Type 0) where
  abbrev pub Both : Option A → Option B → Type 0
  Both none none = Unit {0}
  Both none (some b) = ⊥
  Both (some a) none = ⊥
  Both (some a) (some b) = R a b

-- missing, or at most 2 ^ 50
abbrev pub BoundedRate : Option ℕ → Type 0
BoundedRate none = Unit {0}
BoundedRate (some r) = r ≤ 2 ^ 50

-- ---- at one depth: `flow_for_depth`, then `published_depth_rate`
unfoldable pub exact_blend : Option ℕ → Option ℕ → ℕ → Option Frac
exact_blend (some f) (some h) n = some (blend (weight (blend_weight n)) (as_frac f) (as_frac h))
exact_blend (some f) none n = some (as_frac f)
exact_blend none h n = as_fracs h

unfoldable pub exact_warm : ℕ → Option ℕ → Option ℕ → Option Frac
exact_warm n flow hist = cond (nat_le n 1) (as_fracs (or flow hist)) (exact_blend flow hist n)

unfoldable pub exact_floor : Option Frac → Option ℕ → Option Frac
exact_floor (some a) (some c) = some (greater_frac a (as_frac c))
exact_floor (some a) none = some a
exact_floor none c = as_fracs c

unfoldable pub exact_by : Float → Option ℕ → Option Frac → Option Frac
exact_by a (some c) (some w) = some (blend (weight a) w (as_frac c))
exact_by a none (some w) = cond (le one64 a) (some w) none
exact_by a c none = as_fracs c

unfoldable pub exact_published : ℕ → Float → Option ℕ → Option ℕ → Option ℕ → Option ℕ → Option Frac
exact_published n alpha flow frontier hist confirm =
    exact_by (clamped_share alpha) (cold_rate frontier hist) (cond (floored n alpha) (exact_floor (exact_warm n flow hist) confirm) (exact_warm n flow hist))

unfoldable pub exact_at : Args → ℕ → Option Frac
exact_at a i =
    let n = slice_index_or a.depths i 0 in
    let f = rate_at a.frontier a.frontier_marks i in
    exact_published n a.alpha (flow_for_depth (rate_at a.projected a.projected_marks i) f n) f (rate_at a.history a.history_marks i) a.confirm

-- "each depth takes the least fraction so far in list order, its own included, and nothing before the first"
module _ {A : Type 0} (lesser : A → A → A) where
  abbrev pub least : Option A → Option A → Option A
  least none y = y
  least (some a) none = some a
  least (some a) (some b) = some (lesser a b)

  unfoldable pub least_so_far : Option A → List (Option A) → List (Option A)
  least_so_far x [] = []
  least_so_far x (y ∷ ys) = least x y ∷ least_so_far (least x y) ys

unfoldable pub exact_rates : Args → List (Option Frac)
exact_rates a = least_so_far lesser_frac none (tabulate (exact_at a) 0 (length a.depths))

-- "`fee_at_target_sat_kvb`'s cases over depths and fractions, with an unrounded straight line"
unfoldable pub exact_line : ℕ → ℕ → Frac → ℕ → Frac → Frac
exact_line target d0 l d1 r = record { num = l.num * r.den * (d1 - target) + r.num * l.den * (target - d0); den = l.den * r.den * (d1 - d0) }

-- no depths: no point
unfoldable pub exact_point : Args → ℕ → Option Frac
exact_point a target = cond (length a.depths == 0) none (at_target (exact_line target) a.depths (exact_rates a) target)
