-- `fee_est::depths::published_depth_rate` meets its contract. Assumes nothing.
use Rattle.std.proofs.Common.{◌≡◌, ℕ, cond, sym, ap, ◌∙◌, subst, arith}
use mathlib.Core.Option.{Option}
use Rattle.rbitcoin_mempool.specs.Rates.{given}
use Rattle.rbitcoin_mempool.specs.Depths.{greater, warmup_blend, cold_rate, depth_rate_sat_kvb, floored, published_depth_rate}
use Rattle.rbitcoin_mempool.specs.Exact.{Within, Both, exact_published}
use Rattle.rbitcoin_mempool.proofs.Published.{published-beside}
use Rattle.rbitcoin_mempool.proofs.fee_est.depths.published_depth_rate.Goals as goal

pub returns : goal.returns
unfolding published_depth_rate depth_rate_sat_kvb
returns c =
    let f = c.floored_rate.ensures ∙ ap (λ (o : Option ℕ). cond (floored c.args.n_blocks c.args.alpha) (greater o (given c.args.confirm_floor)) o) c.warm_rate-warm.ensures in
    let e : given c.warmup_blend.result ≡ published_depth_rate c.args.n_blocks c.args.alpha (given c.args.flow) (given c.args.frontier) (given c.args.hist) (given c.args.confirm_floor) =
    c.warmup_blend.ensures.result_value ∙ ap (λ (o : Option ℕ). warmup_blend c.args.alpha o (given c.floored_rate.result)) c.cold_rate-cold.ensures ∙ ap (λ (o : Option ℕ). warmup_blend c.args.alpha (cold_rate (given c.args.frontier) (given c.args.hist)) o) f in record {
      result_value = e;
      both = λ F R H C. subst (λ (o : Option ℕ). Both (Within 2) o (exact_published c.args.n_blocks c.args.alpha (given c.args.flow) (given c.args.frontier) (given c.args.hist) (given c.args.confirm_floor))) (sym e)
          (published-beside c.args.n_blocks (omega arith) c.args.alpha (given c.args.flow) (given c.args.frontier) (given c.args.hist) (given c.args.confirm_floor) F R H C);
    }
