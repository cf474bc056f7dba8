-- Words that are read from the front. Definitions only.
use Rattle.std.specs.Prelude.{◌≡◌, ℕ, List, drop, slice_index}
use Rattle.replay_lines.specs.Lists.{list_at}
use Rattle.replay_lines.specs.declared.words.Words.{Words}

-- 0 where none is left
abbrev pub next_word : Words → ℕ
next_word s = slice_index s.left.now 0

-- the next word says how many elements it has
abbrev pub next_list : Words → List ℕ
next_list s = list_at s.left.now 0

-- n words were read
abbrev pub LeavesAfter : ℕ → Words → Words → Type 0
LeavesAfter n s t = t.left.now ≡ drop n s.left.now
