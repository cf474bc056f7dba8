-- `fee_history::rates::confidence_for` meets its contract. Assumes nothing.
use mathlib.Core.Path.{sym, ◌∙◌}
use lib.Ieee.{of_int, of_bits}
use borrow.Author.Tests.{le-leb, lt-leb}
use Rattle.rbitcoin_net.specs.History.{confidence_of}
use Rattle.rbitcoin_net.proofs.fee_history.rates.confidence_for.Goals as goal

pub returns-then-n-le1 : goal.returns-then-n-le1
unfolding confidence_of of_int of_bits
returns-then-n-le1 c = sym (rw (le-leb c.args.n 1 c.if-n-le1.true))

pub returns-else-n-le1 : goal.returns-else-n-le1
unfolding confidence_of of_int of_bits
returns-else-n-le1 c = c.historical_confidence_far.ensures ∙ sym (rw (lt-leb c.args.n 1 c.if-n-le1.false))
