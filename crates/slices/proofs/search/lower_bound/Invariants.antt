-- `search::lower_bound` meets its contract: each turn is one of the definition's. Assumes nothing.
use Rattle.std.proofs.Common.{ℕ, ◌+◌, ◌≤◌, min, max, List, length}
use Rattle.slices.specs.Search.{lower_bound}
use Rattle.slices.proofs.Bisect.{Turns}
use Rattle.slices.proofs.search.lower_bound.Given as goal

abbrev Left : List ℕ → ℕ → ℕ → ℕ → ℕ → ℕ → Type 0
Left xs h lo hi a b = Turns xs h a b (lower_bound xs lo hi h) × (a ≤ b) × (b ≤ max lo (min hi (length xs))) × (lo ≤ a)

abbrev pub invariant-loop-size : goal.invariant-loop-size
invariant-loop-size l = Left l.xs l.v l.lo l.hi l.base (l.base + l.size)

abbrev pub decreases-loop-size : goal.decreases-loop-size
decreases-loop-size l = l.size
