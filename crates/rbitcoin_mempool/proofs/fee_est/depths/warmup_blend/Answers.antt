-- `fee_est::depths::warmup_blend` meets its contract. Assumes nothing.
use Rattle.std.proofs.Common.{ℕ, sym, ap, ◌∙◌, subst}
use mathlib.Core.Option.{Option}
use lib.Ieee.{Float}
use Rattle.rbitcoin_mempool.specs.Rates.{given}
use Rattle.rbitcoin_mempool.specs.Depths.{clamped_share, blend_by, warmup_blend}
use Rattle.rbitcoin_mempool.specs.Exact.{as_fracs, Within, Both, exact_by}
use Rattle.rbitcoin_mempool.proofs.Published.{warmup-beside}
use Rattle.rbitcoin_mempool.proofs.fee_est.depths.warmup_blend.Goals as goal

pub returns : goal.returns
unfolding warmup_blend
returns c =
    let e = c.blend_by.ensures ∙ ap (λ (s : Float). blend_by s (given c.args.cold) (given c.args.warm)) c.clamped_share.ensures in
    record {
      result_value = e;
      both = λ C W. subst (λ (o : Option ℕ). Both (Within 1) o (exact_by (clamped_share c.args.alpha) (given c.args.cold) (as_fracs (given c.args.warm)))) (sym e) (warmup-beside c.args.alpha (given c.args.cold) (given c.args.warm) C W);
    }
