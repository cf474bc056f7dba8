-- `fee_analog::history::AnalogHistory::move_to` meets its contract. Assumes nothing.
use Rattle.std.proofs.Common.{refl, ◌∙◌, arith}
use Rattle.slices.proofs.Runs.{copied}
use Rattle.rbitcoin_mempool.specs.Windows.{moved_to}
use Rattle.rbitcoin_mempool.proofs.Values.{windows-eq}
use Rattle.rbitcoin_mempool.proofs.fee_analog.history.AnalogHistory.move_to.Goals as goal

pub returns-clause-moved : goal.returns-clause-moved
unfolding moved_to
returns-clause-moved c =
    let s = c.args.self.now in
    let v = c.requires.valid in
    windows-eq refl
    (c.copy_within.ensures ∙ copied c.args.memory.now.hurdles.now c.args.to s.start s.count (omega arith) (omega arith))
    c.move_regions.ensures.befores_after c.move_regions.ensures.aheads_after
