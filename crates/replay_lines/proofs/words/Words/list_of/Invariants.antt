-- The loop of `replay_lines::words::Words::list_of`: each turn puts one element. Assumes nothing.
use Rattle.std.proofs.Common.{◌≡◌, map, take}
use Rattle.replay_lines.proofs.words.Words.list_of.Given as goal

abbrev pub invariant-loop-word : goal.invariant-loop-word
invariant-loop-word g l = l.lows.items ≡ map g.T.Low.low (take l.word-index l.list)
