-- `read_all`: each turn feeds some bytes more. Assumes nothing.
use Rattle.feequote.specs.Reads.{Fed}
use Rattle.feequote.proofs.read_all.Given as goal

abbrev pub invariant-loop : goal.invariant-loop
invariant-loop g l = Fed (g.I.Read.remaining l.initial.input) (g.I.Read.remaining l.input) l.initial.reader l.reader
