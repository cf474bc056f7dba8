-- `fee_history::FeeHistory::evict` meets its contract. Assumes nothing.
use mathlib.Core.Path.{◌∙◌, ap}
use native.Mathlib.Omega.{arith}
use borrow.Author.Rules.{rules}
use Rattle.rbitcoin_net.specs.Memory.{rows_seen}
use Rattle.rbitcoin_net.specs.Evictions.{Hashed, evict_in}
use Rattle.rbitcoin_net.proofs.Evictions.{evicted-at, within-budget, none_left, going_on, evicted-start, evicted-count}
use Rattle.rbitcoin_net.proofs.fee_history.FeeHistory.evict.Goals as goal

pub loop-at-preserved : goal.loop-at-preserved
loop-at-preserved c =
    let m = rows_seen c.args.rows in
    let v = c.loop-at.invariant in
    let e = evicted-at _ c.loop-at.self.start m _ _ _ (rw v.at at c.block_at.ensures) (rw v.at at c.evict_one.ensures.evicted) in
    let b = ap (λ (x : Hashed). x.state.start) e ∙ evicted-start _ _ _ _ in
    let n = ap (λ (x : Hashed). x.state.count) e ∙ evicted-count _ _ _ _ in
    record {
      at = omega arith;
      end = omega arith;
      going = going_on _ _ _ _ _ _ _ _ v.going (omega arith) c.if-self.false e;
      lent = search rules;
    }

pub returns-then-self-clause-evicted : goal.returns-then-self-clause-evicted
unfolding evict_in
returns-then-self-clause-evicted c = within-budget _ _ _ c.if-self.true ∙ c.loop-at.invariant.going.same

pub returns-then-self-2-clause-evicted : goal.returns-then-self-2-clause-evicted
unfolding evict_in
returns-then-self-2-clause-evicted c = none_left _ _ _ (omega arith) c.if-self-2.true ∙ c.loop-at.invariant.going.same

pub returns-else-self-2-clause-evicted : goal.returns-else-self-2-clause-evicted
unfolding evict_in
returns-else-self-2-clause-evicted c = within-budget _ _ _ c.if-self-2.false ∙ c.loop-at.invariant.going.same
