-- `fee_history::readers::put_rates` meets its contract. Assumes nothing.
use mathlib.Core.Path.{◌≡◌}
use mathlib.Core.List.{◌++◌}
use lib.ListN.{length, take, drop}
use Rattle.slices.specs.Lists.{tabulate}
use Rattle.rbitcoin_mempool.specs.Lists.{SameLists}
use Rattle.rbitcoin_mempool.specs.Rates.{rate_at, numbers_of, marks_of}
use Rattle.rbitcoin_net.proofs.fee_history.readers.put_rates.Given as goal

abbrev pub invariant-loop-i : goal.invariant-loop-i
invariant-loop-i l =
    let ns = l.fn.out.numbers.now in
    let ms = l.fn.out.marks.now in
    let rates = tabulate (rate_at l.held.numbers.now l.held.marks.now) l.start l.n in
    record {
      many : length l.out.numbers.now ≡ length ns;
      long : length l.out.marks.now ≡ length ms;
      numbers : l.out.numbers.now ≡ take l.i (numbers_of rates) ++ drop l.i ns;
      marks : l.out.marks.now ≡ take l.i (marks_of rates) ++ drop l.i ms;
      lent : SameLists l.fn.out l.out;
    }
