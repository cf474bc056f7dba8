-- `num::wide::divide_word` meets its contract: each return is a division of its own. Assumes nothing.
use Rattle.std.proofs.Common.{arith}
use Rattle.num.proofs.WideDivision.{upper-zero}
use Rattle.num.proofs.wide.divide_word.Goals as goal

pub returns-then-hi-eq0 : goal.returns-then-hi-eq0
returns-then-hi-eq0 c = upper-zero c.args.lo c.if-hi-eq0.true (omega arith)
