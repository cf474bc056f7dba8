-- `fee_analog::history::AnalogHistory::scan` meets its contract. Assumes nothing.
use Rattle.std.proofs.Common.{◌≡◌, ◌+◌, ◌-◌, ◌*◌, length, take, drop, refl, ap, ◌∙◌, ap₂, arith}
use lib.Ieee.{Float}
use Rattle.std.specs.Prelude.{List}
use Rattle.rbitcoin_mempool.specs.Median.{analog_lookback, ln_rate, lookback_part, median_of}
use Rattle.rbitcoin_mempool.specs.Memory.{windows_seen}
use Rattle.rbitcoin_mempool.specs.Nearest.{neighbors, paired}
use Rattle.rbitcoin_mempool.specs.Pairs.{Pair, windows_in}
use Rattle.rbitcoin_mempool.specs.Quantile.{quantile_of}
use Rattle.rbitcoin_mempool.specs.Windows.{target_at, stored_pairs}
use Rattle.rbitcoin_mempool.proofs.Scans.{Lying, lying, part_length, parts-paired, now-held}
use Rattle.rbitcoin_mempool.proofs.fee_analog.history.AnalogHistory.scan.Goals as goal
use Rattle.rbitcoin_mempool.proofs.fee_analog.history.AnalogHistory.scan.Goals.{After-count_in}

counted : (c : After-count_in) → c.count_in.result ≡ windows_in c.args.self.now.count (target_at c.args.self.now c.args.d)
unfolding windows_in
counted c = rw (← c.of-window.ensures.lookback, ← c.of-window.ensures.ahead) c.count_in.ensures

-- where the pairs lie
span : (c : After-count_in) → Lying c.args.self.now c.args.d (length c.args.lists.hurdles.now) (length c.args.lists.befores.now) (length c.args.lists.aheads.now) (length c.args.scratch.now) (c.args.d * c.args.self.now.capacity + (c.args.self.now.start + c.of-window.result.lookback)) c.count_in.result
span c = lying c.args.self.now c.args.d _ _ _ _ c.of-window.result.lookback _ c.requires.valid c.requires.d_lt_tracked c.requires.bound c.requires.capacity_in_bounds c.of-window.ensures.lookback (counted c)

pub slice_bounds-pairs-end : goal.slice_bounds-pairs-end
slice_bounds-pairs-end c = let l = span (goal.at.slice_bounds-pairs-end c).After-count_in in omega arith

pub slice_bounds-pairs-end-2 : goal.slice_bounds-pairs-end-2
slice_bounds-pairs-end-2 c = let l = span (goal.at.slice_bounds-pairs-end-2 c).After-count_in in omega arith

pub neighbors_quantile-requires : goal.neighbors_quantile-requires
neighbors_quantile-requires c =
    let a = (goal.at.neighbors_quantile-requires c).After-count_in in
    let l = span a in
    let n = counted a in
    let p = part_length c.args.lists.befores.now (c.args.d * c.args.self.now.capacity + (c.args.self.now.start + c.of-window.result.lookback)) c.count_in.result l.in-befores in
    record { enough = omega arith; room = omega arith }

pub returns : goal.returns
returns c =
    let a = (goal.at.returns c).After-count_in in
    let l = span a in
    let s = c.args.self.now in
    let w = windows_seen s c.args.lists in
    let hs = c.args.lists.hurdles.now in
    let k = c.count_in.result in
    let first = c.args.d * s.capacity + (s.start + c.of-window.result.lookback) in
    let e : first + k - first ≡ k = omega arith in
    let target = target_at s c.args.d in
    let lookback = c.of-window.ensures.lookback in
    let m : c.median_before-level.result ≡ median_of (lookback_part hs (s.start + s.count) (analog_lookback target)) = rw (← lookback) c.median_before-level.ensures in
    let level = c.ln_rate.ensures ∙ ap ln_rate m ∙ now-held s hs target l.lookback-before l.in-hurdles in
    let g : first ≡ c.args.d * s.capacity + (s.start + analog_lookback target) = rw (← lookback) refl in
    let pairs : paired (take (first + k - first) (drop first c.args.lists.befores.now)) (take (first + k - first) (drop first c.args.lists.aheads.now)) ≡ stored_pairs w c.args.d
    = rw e (parts-paired w c.args.d first k (length c.args.scratch.now) l g (counted a)) in
    c.neighbors_quantile.ensures ∙ ap₂ (λ (v : Float) (ps : List Pair). quantile_of (neighbors v ps) c.args.confidence) level pairs
