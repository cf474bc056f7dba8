-- `fee_analog::quantile::in_unit` meets its contract. Assumes nothing.
use Rattle.std.proofs.Common.{◌≡◌, Bool, true, false, cond, ◌||◌, ◌&&◌, refl, ap₂, ◌∙◌, Some, None, Less, Equal, Greater}
use Rattle.std.specs.Ordering.{float_partial_cmp, partial_le}
use lib.Ieee.{Float, le, lt, eq, of_bits}
use Rattle.rbitcoin_mempool.specs.Quantile.{in_unit}
use Rattle.rbitcoin_mempool.proofs.fee_analog.quantile.in_unit.Goals as goal

-- `<=` of floats is the order that a range asks for
ordered : (x y : Float) → partial_le float_partial_cmp x y ≡ le x y
unfolding le
ordered x y = go (lt x y) (eq x y) (lt y x)
  where
    go : (a b c : Bool) → partial_le (λ (u v : Float). cond a (Some Less) (cond b (Some Equal) (cond c (Some Greater) None))) x y ≡ (a || b)
    go true b c = refl
    go false true c = refl
    go false false true = refl
    go false false false = refl

pub returns : goal.returns
unfolding in_unit of_bits
returns c = c.contains.ensures.value ∙ rw (c.new.ensures.start, c.new.ensures.end, c.new.ensures.exhausted) (ap₂ (λ a b. a && b) (ordered _ _) (ordered _ _))
