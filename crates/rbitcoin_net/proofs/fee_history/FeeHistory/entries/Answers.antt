-- `fee_history::FeeHistory::entries` meets its contract. Assumes nothing.
use Rattle.std.proofs.Common.{sym, subst, refl, rules, ◌∙◌}
use Rattle.rbitcoin_mempool.specs.Counted.{Counted}
use Rattle.rbitcoin_mempool.proofs.Refusals.{some_number}
use Rattle.rbitcoin_net.specs.Memory.{rows_of, rows_seen}
use Rattle.rbitcoin_net.specs.Readers.{Entries}
use Rattle.rbitcoin_net.proofs.Passed.{counted_err}
use Rattle.rbitcoin_net.proofs.Refusals.{entries_fit}
use Rattle.rbitcoin_net.proofs.Readers.{entries-refused, entries-written, part-written}
use Rattle.rbitcoin_net.proofs.fee_history.FeeHistory.entries.Goals as goal

pub returns-in_err-check_entries-clause-written : goal.returns-in_err-check_entries-clause-written
returns-in_err-check_entries-clause-written c =
    let s = c.args.self.now in
    let m = rows_seen c.args.rows in
    let o = rows_of c.args.out.now in
    let l = c.lists.ensures in
    let k = rw (l.heights, l.marks, l.rates, l.sizes) at c.in_err-check_entries.ensures in
    subst (λ (a : Counted). Entries s m o o a) (sym (counted_err _ _ c.from_residual.ensures.1))
    (entries-refused s m o _ k (some_number _ _ refl))

pub returns-clause-written : goal.returns-clause-written
returns-clause-written c =
    let s = c.args.self.now in
    let m = rows_seen c.args.rows in
    let o = rows_of c.args.out.now in
    let l = c.lists.ensures in
    let k = rw (l.heights, l.marks, l.rates, l.sizes) at c.in_ok-check_entries.ensures in
    let r = c.marked.ensures in
    let f = entries_fit s _ _ _ _ _ _ _ _ (sym k) in
    let e = entries-written s m o 0 _ k refl
    (c.copy_front.ensures ∙ part-written _ _ _ _ _ refl f.1.heights f.2.heights)
    (rw (r.numbers, r.marks) at c.put_rates.ensures.marks) (rw (r.numbers, r.marks) at c.put_rates.ensures.numbers)
    (c.copy_front-2.ensures ∙ part-written _ _ _ _ _ refl f.1.sizes f.2.sizes) in
    search rules
