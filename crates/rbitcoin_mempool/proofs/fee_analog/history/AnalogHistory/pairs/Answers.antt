-- `fee_analog::history::AnalogHistory::pairs` meets its contract. Assumes nothing.
use Rattle.std.proofs.Common.{◌≡◌, sym, ◌∙◌, arith, ltb-false, ltb-true}
use Rattle.rbitcoin_mempool.specs.Pairs.{windows_in}
use Rattle.rbitcoin_mempool.proofs.Refusals.{sound}
use Rattle.rbitcoin_mempool.proofs.Scans.{count-given, counted_passed, counted_tracked, counted_none}
use Rattle.rbitcoin_mempool.proofs.fee_analog.history.AnalogHistory.pairs.Goals as goal

pub returns-in_err-check : goal.returns-in_err-check
returns-in_err-check c = counted_passed _ _ _ _ c.from_residual.ensures.1 c.in_err-check.ensures

pub tracks-requires : goal.tracks-requires
tracks-requires c = (sound _ (sym c.in_ok-check.ensures)).few

pub count_in-requires : goal.count_in-requires
count_in-requires c = let s = sound _ (sym c.in_ok-check.ensures) in omega arith

pub returns-then-tracks : goal.returns-then-tracks
unfolding windows_in
returns-then-tracks c =
    let n : c.count_in.result ≡ windows_in c.args.self.now.count c.args.n_blocks = cc in
    count-given _ _ _ (sym c.in_ok-check.ensures)
    (n ∙ counted_tracked c.args.self.now c.args.n_blocks (ltb-true _ _ (sym c.tracks.ensures ∙ c.if-tracks.true)))

pub returns : goal.returns
returns c =
    count-given _ _ 0 (sym c.in_ok-check.ensures)
    (counted_none c.args.self.now c.args.n_blocks (ltb-false _ _ (sym c.tracks.ensures ∙ c.if-tracks.false)))
