-- `replay_lines::digests::digest` meets its contract: the digest so far, with what is left, is the whole list's. Assumes nothing.
use Rattle.std.proofs.Common.{◌≡◌, ℕ, map, drop}
use Rattle.replay_lines.specs.Digest.{mixed_all}
use Rattle.replay_lines.proofs.digests.digest.Given as goal

abbrev pub invariant-loop-word : goal.invariant-loop-word
invariant-loop-word g l =
    (f : g.row.T.Denot → ℕ) → ((x : g.row.T.Denot) (w : ℕ) → g.T.Into.converts x w → w ≡ f x)
    → mixed_all l.digest (drop l.word-index (map f l.list)) ≡ mixed_all l.start (map f l.list)
