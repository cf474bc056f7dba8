-- `fee_est::marked::Marked::last_there` meets its contract. No rate is there from i on. Assumes nothing.
use Rattle.std.specs.Prelude.{◌≡◌, take}
use Rattle.rbitcoin_mempool.specs.Rates.{rates_of}
use Rattle.rbitcoin_mempool.specs.Target.{last_there}
use Rattle.rbitcoin_mempool.proofs.fee_est.marked.Marked.last_there.Given as goal

abbrev pub invariant-loop-i : goal.invariant-loop-i
invariant-loop-i l =
    last_there (take l.n (rates_of l.self.numbers.now l.self.marks.now)) ≡ last_there (take l.i (rates_of l.self.numbers.now l.self.marks.now))
