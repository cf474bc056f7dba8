-- `fee_est::capacity::least_fitting` meets its contract. The loop has the answer of the candidates from i on. Assumes nothing.
use Rattle.std.specs.Prelude.{◌≡◌, drop}
use Rattle.rbitcoin_mempool.specs.Rates.{given, as_answer}
use Rattle.rbitcoin_mempool.specs.Capacity.{fits_with, least_fitting}
use Rattle.rbitcoin_mempool.proofs.fee_est.capacity.least_fitting.Given as goal

abbrev pub invariant-loop-i : goal.invariant-loop-i
invariant-loop-i l = as_answer (given l.least) ≡ least_fitting (fits_with l.suffix l.n_blocks) (drop l.i l.candidates) (drop l.i l.stock)
