-- `fee_analog::history::AnalogHistory::tracks` meets its contract. Assumes nothing.
use Rattle.std.proofs.Common.{◌≡◌, ℕ, Bool, List, length, rules, refl, ◌∙◌}
use borrow.Author.Tests.{tests}
use Rattle.std.specs.List.{list_any}
use Rattle.std.proofs.iter.Yields.{fronts}
use Rattle.std.proofs.lemmas.Fn.{fold_over}
use Rattle.std.proofs.lemmas.Iterator.{YieldsList-from_slice}
use Rattle.rbitcoin_mempool.proofs.Targets.{some_is, some_more, tracked, wanted}
use Rattle.rbitcoin_mempool.proofs.fee_analog.history.AnalogHistory.tracks.Goals as goal

pub returns : goal.returns
returns c =
    let s = c.args.self.now in
    let test = wanted s c.args.n in
    let long : length s.targets ≡ 16 = search rules in
    fold_over fronts _ _ (λ (ys : List ℕ) (b : Bool). b ≡ list_any test ys) _
    (λ ys a x b q e k. (some_more test ys x.now a b e (search (rules, tests)), search rules))
    c.iter.result (tracked s c.args.n) _ c.fold.result (YieldsList-from_slice {s = c.iter.result} (tracked s c.args.n) cc).runs refl c.fold.ensures.ran
    ∙ some_is s c.args.n long c.requires
