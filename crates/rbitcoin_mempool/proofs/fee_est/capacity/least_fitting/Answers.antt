-- `fee_est::capacity::least_fitting` meets its contract. The loop has the answer of the candidates from i on. Assumes nothing.
use Rattle.std.proofs.Common.{sym, ◌∙◌, arith}
use Rattle.rbitcoin_mempool.specs.Capacity.{fits_with}
use Rattle.rbitcoin_mempool.proofs.Search.{search-start, search-fits, search-passes}
use Rattle.rbitcoin_mempool.proofs.fee_est.capacity.least_fitting.Goals as goal

pub loop-i-init : goal.loop-i-init
loop-i-init c = search-start (fits_with c.args.suffix.now c.args.n_blocks) c.args.candidates.now c.args.stock.now c.requires

pub loop-i-preserved-then-fits_with : goal.loop-i-preserved-then-fits_with
loop-i-preserved-then-fits_with c =
    search-fits (fits_with c.args.suffix.now c.args.n_blocks) c.args.candidates.now c.args.stock.now c.requires c.loop-i.i (omega arith) (omega arith) _ c.loop-i.invariant
    (sym c.fits_with.ensures ∙ c.if-fits_with.true) _ c.lesser_of-least.ensures

pub loop-i-preserved : goal.loop-i-preserved
loop-i-preserved c =
    search-passes (fits_with c.args.suffix.now c.args.n_blocks) c.args.candidates.now c.args.stock.now c.requires c.loop-i.i (omega arith) (omega arith) _ c.loop-i.invariant
    (sym c.fits_with.ensures ∙ c.if-fits_with.false)
