-- `fee_est::hold::hold_all` meets its contract. The loop keeps `Holding`. Assumes nothing.
use Rattle.rbitcoin_mempool.specs.Rates.{given}
use Rattle.rbitcoin_mempool.specs.Lists.{SameLists}
use Rattle.rbitcoin_mempool.proofs.Passes.{Holding}
use Rattle.rbitcoin_mempool.proofs.fee_est.hold.hold_all.Given as goal

abbrev pub invariant-loop-i : goal.invariant-loop-i
invariant-loop-i l = record {
  holding : Holding l.fn.rates.numbers.now l.fn.rates.marks.now l.rates.numbers.now l.rates.marks.now (given l.least) l.i;
  same_lists : SameLists l.rates l.fn.rates;
}
