-- `num::exp::power` meets its contract, by `proofs/Power.antt`. Assumes nothing.
use Rattle.num.proofs.Power.{power-up, power-down, no_nan}
use Rattle.num.proofs.exp.power.Goals as goal

pub float_from_bits-result : goal.float_from_bits-result
float_from_bits-result c = no_nan _ _ _ (power-down c.args.size (rw c.if-negative.true at c.requires))

pub float_from_bits-result-else-negative : goal.float_from_bits-result-else-negative
float_from_bits-result-else-negative c = no_nan _ _ _ (power-up c.args.size (rw c.if-negative.false at c.requires))

pub returns-then-negative : goal.returns-then-negative
returns-then-negative c = rw c.if-negative.true (power-down c.args.size (rw c.if-negative.true at c.requires))

pub returns-else-negative : goal.returns-else-negative
returns-else-negative c = rw c.if-negative.false (power-up c.args.size (rw c.if-negative.false at c.requires))
