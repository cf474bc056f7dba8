-- `replay_lines::question::read_words` meets its contract: each turn puts one word. Assumes nothing.
use Rattle.std.proofs.Common.{◌≡◌, length, take}
use Rattle.replay_lines.specs.Lines.{up_to, words_of}
use Rattle.replay_lines.specs.Lists.{over}
use Rattle.replay_lines.proofs.question.read_words.Given as goal

abbrev pub invariant-loop-i : goal.invariant-loop-i
invariant-loop-i l =
    l.out ≡ over (take l.i (words_of l.line (length (up_to 32 l.line)) 512)) l.initial.out

abbrev pub invariant-loop-j : goal.invariant-loop-j
invariant-loop-j l =
    l.out ≡ over (take l.j (words_of l.line (length (up_to 32 l.line)) 512)) l.fn.out
