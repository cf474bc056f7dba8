-- `fee_est::depths::blend_sat_kvb` meets its contract. Assumes nothing.
use Rattle.std.proofs.Common.{ℕ, sym, subst, arith}
use mathlib.Core.Option.{Option}
use Rattle.rbitcoin_mempool.specs.Rates.{given}
use Rattle.rbitcoin_mempool.specs.Exact.{Within, Both, exact_blend}
use Rattle.rbitcoin_mempool.proofs.Published.{blend-beside}
use Rattle.rbitcoin_mempool.proofs.fee_est.depths.blend_sat_kvb.Goals as goal

pub returns : goal.returns
returns c =
    record {
      result_value = c.blend_rate.ensures;
      both = λ F H. subst (λ (o : Option ℕ). Both (Within 1) o (exact_blend (given c.args.flow) (given c.args.hist) c.args.n_blocks)) (sym c.blend_rate.ensures) (blend-beside c.args.n_blocks (omega arith) (given c.args.flow) (given c.args.hist) F H);
    }
