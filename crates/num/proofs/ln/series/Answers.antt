-- `num::ln::series` meets its contract: both sides compute to the same ten steps. Assumes nothing.
use Rattle.std.proofs.Common.{rules, tests}
use Rattle.std.proofs.lemmas.Iterator.{YieldsList-from_slice}
use Rattle.std.proofs.lemmas.Iterator.Consumers.{fold_from_yields_List}
use lib.Ieee.{Float, binary64, add, mul, div, of_bits, of_int}
use Rattle.num.specs.Ln.{terms}
use Rattle.num.proofs.ln.series.Goals as goal

pub returns : goal.returns
unfolding terms div of_bits of_int
returns c =
    fold_from_yields_List _ (λ (t r : Float). add binary64 r (mul binary64 c.args.z t)) _ _ c.fold.ensures.ran (YieldsList-from_slice _ c.iter.ensures.rest) (λ a x b q k. search (rules, tests))
