-- `Reader::feed` meets its contract: after i turns, i bytes are read. Assumes nothing.
use mathlib.Core.Path.{◌≡◌}
use lib.ListN.{take}
use Rattle.quote_lines.specs.Store.{fed}
use Rattle.quote_lines.proofs.reader.Reader.feed.Given as goal

abbrev pub invariant-loop-b : goal.invariant-loop-b
invariant-loop-b l = l.self ≡ fed l.initial.self (take l.b-index l.input)
