-- `fee_analog::history::AnalogHistory::put_pair` meets its contract. Assumes nothing.
use Rattle.std.proofs.Common.{◌≡◌, ◌+◌, ◌-◌, ◌∙◌, arith}
use Rattle.rbitcoin_mempool.specs.Ends.{newest}
use Rattle.rbitcoin_mempool.specs.Pairs.{ahead_at, before_at}
use Rattle.rbitcoin_mempool.specs.Windows.{held, new_window, target_at}
use Rattle.rbitcoin_mempool.proofs.Puts.{ahead_put, before_put, put-none}
use Rattle.rbitcoin_mempool.proofs.fee_analog.history.AnalogHistory.put_pair.Goals as goal

pub returns-then-self-len-clause-befores : goal.returns-then-self-len-clause-befores
returns-then-self-len-clause-befores c =
    let s = c.args.self.now in
    put-none before_at (newest c.args.end) s (held s c.args.memory.now.hurdles.now) c.args.d _ (omega arith)

pub returns-then-self-len-clause-aheads : goal.returns-then-self-len-clause-aheads
returns-then-self-len-clause-aheads c =
    let s = c.args.self.now in
    put-none ahead_at (newest c.args.end) s (held s c.args.memory.now.hurdles.now) c.args.d _ (omega arith)

pub returns-clause-befores : goal.returns-clause-befores
returns-clause-befores c =
    let s = c.args.self.now in
    let w = c.of-window.ensures in
    let first : c.first_ahead.result ≡ new_window (newest c.args.end) s.count (target_at s c.args.d) = rw (← w.lookback, ← w.ahead) c.first_ahead.ensures in
    before_put (newest c.args.end) s c.args.memory.now.hurdles.now c.lists.result.hurdles.now c.args.d c.first_ahead.result c.lists.ensures.hurdles (omega arith) (omega arith)
    _ _ _ _ first w.lookback c.median_before.ensures c.ln_rate-before.ensures

pub returns-clause-aheads : goal.returns-clause-aheads
returns-clause-aheads c =
    let s = c.args.self.now in
    let w = c.of-window.ensures in
    let first : c.first_ahead.result ≡ new_window (newest c.args.end) s.count (target_at s c.args.d) = rw (← w.lookback, ← w.ahead) c.first_ahead.ensures in
    let p = s.start + c.first_ahead.result in
    let k : p + c.of-window.result.ahead - p ≡ c.of-window.result.ahead = omega arith in
    ahead_put (newest c.args.end) s c.args.memory.now.hurdles.now c.lists.result.hurdles.now c.args.d c.first_ahead.result c.lists.ensures.hurdles (omega arith) (omega arith)
    _ _ _ first w.ahead (c.least_of-least.ensures ∙ rw k)
