-- The loop of `replay_lines::answer_all`: where the lines that are left are answered, all are. Assumes nothing.
use Rattle.std.proofs.Common.{◌≡◌, length}
use Rattle.std.specs.List.{FoldsTo}
use Rattle.replay_lines.specs.Lines.{lines_of}
use Rattle.replay_lines.specs.Replay.{Answers}
use Rattle.replay_lines.proofs.answer_all.Given as goal

abbrev pub invariant-loop-line : goal.invariant-loop-line
invariant-loop-line g l =
    (length l.words ≡ 512)
    × ((last : g.row.W.Denot)
    → FoldsTo (Answers g.A.Answers.gives l.answers) l.to (lines_of l.line-iterator.left.now) last
    → FoldsTo (Answers g.A.Answers.gives l.answers) l.initial.to (lines_of l.initial.line-iterator.left.now) last)
