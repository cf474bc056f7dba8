-- `fee_est::marked::Marked::last_there` meets its contract. No rate is there from i on. Assumes nothing.
use Rattle.std.proofs.Common.{◌≡◌, ◌∙◌, arith}
use Rattle.rbitcoin_mempool.specs.Target.{last_there}
use Rattle.rbitcoin_mempool.proofs.Passes.{last-found, last-missing}
use Rattle.rbitcoin_mempool.proofs.fee_est.marked.Marked.last_there.Goals as goal

pub returns-then-self-i-eq1 : goal.returns-then-self-i-eq1
returns-then-self-i-eq1 c =
    rw c.loop-i.invariant (last-found c.args.self.now.numbers.now c.args.self.now.marks.now c.loop-i.i (omega arith) (omega arith) c.if-self-i-eq1.true)

pub loop-i-preserved : goal.loop-i-preserved
loop-i-preserved c =
    c.loop-i.invariant ∙ last-missing c.args.self.now.numbers.now c.args.self.now.marks.now c.loop-i.i (omega arith) (omega arith) c.if-self-i-eq1.false

pub returns : goal.returns
unfolding last_there
returns c = let e : c.loop-i.i ≡ 0 = omega arith in rw (c.loop-i.invariant, e)
