-- `num::wide::wide_divide` meets its contract: the lower word is one digit more to the base 2 ^ 64. Assumes nothing.
use Rattle.std.proofs.Common.{◌^◌, mod-lt, arith}
use Rattle.num.specs.Wide.{value}
use Rattle.num.proofs.WideDivision.{plain, plain-below, next, is-divided, by_zero}
use Rattle.num.proofs.wide.wide_divide.Goals as goal

pub returns-then-d-eq0 : goal.returns-then-d-eq0
unfolding value
returns-then-d-eq0 c = by_zero _ c.if-d-eq0.true

pub returns-then-n-d : goal.returns-then-n-d
unfolding value
returns-then-n-d c = is-divided (next (2 ^ 64) _ (plain-below c.if-n-d.true) c.divide_word-low.ensures)

pub divide_word-low-requires-2 : goal.divide_word-low-requires-2
divide_word-low-requires-2 c = mod-lt _ (omega arith)

pub returns : goal.returns
unfolding value
returns c = is-divided (next (2 ^ 64) _ (plain _ (omega arith)) c.divide_word-low-2.ensures)
