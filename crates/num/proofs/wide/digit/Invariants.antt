-- `num::wide::digit` meets its contract, by `proofs/WideDigit.antt`. The loop keeps a `Trial`, and the trial digit falls. Assumes nothing.
use Rattle.num.proofs.WideDigit.{Trial}
use Rattle.num.proofs.wide.digit.Given as goal

abbrev pub invariant-loop-left : goal.invariant-loop-left
invariant-loop-left l = Trial l.r l.x l.upper l.lower l.q l.left

abbrev pub decreases-loop-left : goal.decreases-loop-left
decreases-loop-left l = l.q
