-- `replay_lines::question::word` meets its contract: after i turns x is what i digits spell. Assumes nothing.
use Rattle.std.proofs.Common.{◌≡◌}
use Rattle.replay_lines.specs.Hex.{hex_of}
use Rattle.replay_lines.proofs.question.word.Given as goal

abbrev pub invariant-loop-i : goal.invariant-loop-i
invariant-loop-i l = l.x ≡ hex_of l.digits 0 l.i
