-- The loop's invariant: the steps from j down, at t, give the whole polynomial.
use Rattle.std.proofs.Common.{◌≡◌}
use Rattle.num.specs.Exp.{one, horner}
use Rattle.num.proofs.exp.series.Given as goal

abbrev pub invariant-loop-j : goal.invariant-loop-j
invariant-loop-j l = horner l.r l.j l.t ≡ horner l.r 13 one
