-- `fee_history::FeeHistory::keep_rates` meets its contract. Assumes nothing.
use mathlib.Core.Path.{ap, ◌∙◌}
use native.Mathlib.Omega.{arith}
use lib.ListN.{length}
use Rattle.rbitcoin_net.specs.declared.fee_history.FeeHistory.{FeeHistory}
use Rattle.rbitcoin_net.specs.Memory.{rated_of, rows_seen}
use Rattle.rbitcoin_net.specs.Rates.{keeping}
use Rattle.rbitcoin_net.proofs.Rates.{kept-answers, fresh-answers, fresh_tracked, fresh-scratch}
use Rattle.rbitcoin_net.proofs.fee_history.FeeHistory.keep_rates.Goals as goal

pub returns-then-self-clause-rates : goal.returns-then-self-clause-rates
returns-then-self-clause-rates c = kept-answers _ _ _ c.if-self.true

pub rate_slots-found-requires : goal.rate_slots-found-requires
rate_slots-found-requires c =
    let few = c.requires.tracked in
    let m = rows_seen c.args.rows in
    let e = fresh_tracked 0 m (rated_of c.args.self.now c.args.windows.now) _ _ _ _ c.refresh.ensures.refreshed in
    omega arith

pub returns-clause-rates : goal.returns-clause-rates
returns-clause-rates c =
    let z = length c.args.scratch.now in
    let m = rows_seen c.args.rows in
    let x = rated_of c.args.self.now c.args.windows.now in
    let a = c.refresh.new.self.analog in
    let l = c.lists.ensures in
    let f = c.rate_slots-found in
    ap (λ (s : FeeHistory). rated_of (keeping a f.result.numbers f.result.marks s) c.refresh.new.windows) c.refresh.ensures.state
    ∙ fresh-answers z m x a _ _ _ f.result.numbers f.result.marks c.if-self.false c.refresh.ensures.refreshed
    (rw (l.hurdles, l.befores, l.aheads) at f.ensures.numbers) (rw (l.hurdles, l.befores, l.aheads) at f.ensures.marks)

pub returns-clause-scratch_unread : goal.returns-clause-scratch_unread
returns-clause-scratch_unread c =
    let z = length c.args.scratch.now in
    let m = rows_seen c.args.rows in
    let x = rated_of c.args.self.now c.args.windows.now in
    let a = c.refresh.new.self.analog in
    let l = c.lists.ensures in
    λ h. (rw (l.hurdles, l.befores, l.aheads) at c.rate_slots-found.ensures.scratch) (fresh-scratch z m x a _ _ _ c.refresh.ensures.refreshed h)
