use Rattle.std.proofs.Common.{◌≡◌, take}
use Rattle.quote_lines.proofs.few.Few.from_slice.Given as goal

abbrev pub invariant-loop-item : goal.invariant-loop-item
invariant-loop-item g l = l.few ≡ take l.item-index l.front
