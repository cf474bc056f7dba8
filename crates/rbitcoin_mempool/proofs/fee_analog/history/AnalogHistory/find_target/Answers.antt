-- `fee_analog::history::AnalogHistory::find_target` meets its contract. Assumes nothing.
use Rattle.std.proofs.Common.{◌≡◌, length, rules, ◌∙◌}
use borrow.Author.Tests.{tests}
use Rattle.std.proofs.lemmas.Iterator.{YieldsList-from_slice}
use Rattle.std.proofs.lemmas.Iterator.Search.{position_from_yields_List}
use Rattle.rbitcoin_mempool.proofs.Targets.{first_is, tracked, tracked_length, wanted}
use Rattle.rbitcoin_mempool.proofs.fee_analog.history.AnalogHistory.find_target.Goals as goal

pub returns : goal.returns
returns c =
    let s = c.args.self.now in
    let n = c.args.n in
    let long : length s.targets ≡ 16 = search rules in
    position_from_yields_List (wanted s n) _ _ c.position.result c.position.ensures.ran (YieldsList-from_slice (tracked s n) cc) (λ x b q k. search (rules, tests))
    ∙ rw (first_is s n long c.requires, tracked_length s n long c.requires)
