-- `fee_analog::history::AnalogHistory::put_pairs` meets its contract. The loop's invariant: the first d targets have their pair. Assumes nothing.
use Rattle.std.proofs.Common.{ℕ, List, length, ap, refl, ◌∙◌, rules}
use lib.Ieee.{nan}
use Rattle.rbitcoin_mempool.specs.Ends.{newest}
use Rattle.rbitcoin_mempool.specs.Pairs.{ahead_at, before_at}
use Rattle.rbitcoin_mempool.specs.Windows.{held, put}
use Rattle.rbitcoin_mempool.proofs.Pushes.{each-length}
use Rattle.rbitcoin_mempool.proofs.Regions.{each_more, each_none}
use Rattle.rbitcoin_mempool.proofs.Stored.{put-long}
use Rattle.rbitcoin_mempool.proofs.Values.{valid_same}
use Rattle.rbitcoin_mempool.proofs.fee_analog.history.AnalogHistory.put_pairs.Goals as goal

pub loop-d-init : goal.loop-d-init
loop-d-init c = record { hurdles = refl; befores = each_none _ _; aheads = each_none _ _; lent = search rules }

pub put_pair-requires-clause-valid : goal.put_pair-requires-clause-valid
put_pair-requires-clause-valid c =
    let s = c.args.self.now in
    let hs = held s c.args.memory.now.hurdles.now in
    let j = c.loop-d.invariant in
    valid_same s c.requires (ap length j.hurdles)
    (ap length j.befores ∙ each-length _ c.loop-d.d _ (λ d k ys e. put-long before_at nan (newest c.args.end) s hs d ys ∙ e))
    (ap length j.aheads ∙ each-length _ c.loop-d.d _ (λ d k ys e. put-long ahead_at 0 (newest c.args.end) s hs d ys ∙ e))

pub loop-d-preserved : goal.loop-d-preserved
loop-d-preserved c =
    let l = c.loop-d in
    let s = c.args.self.now in
    record {
      hurdles = c.put_pair.ensures.hurdles ∙ l.invariant.hurdles;
      befores = each_more _ _ _ _ l.d l.invariant.befores
          (c.put_pair.ensures.befores ∙ ap (λ (hs : List ℕ). put before_at (newest c.args.end) s (held s hs) l.d l.memory.befores.now) l.invariant.hurdles);
      aheads = each_more _ _ _ _ l.d l.invariant.aheads
          (c.put_pair.ensures.aheads ∙ ap (λ (hs : List ℕ). put ahead_at (newest c.args.end) s (held s hs) l.d l.memory.aheads.now) l.invariant.hurdles);
      lent = search rules;
    }
