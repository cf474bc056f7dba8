-- `fee_analog::history::AnalogHistory::rate_sat_kvb` meets its contract. Assumes nothing.
use Rattle.std.proofs.Common.{◌≡◌, ℕ, length, sym, ap, ◌∙◌, arith}
use borrow.Author.Tests.{not-true, not-false}
use Rattle.std.proofs.lemmas.Bool.{not_from_true, not_from_false}
use Rattle.rbitcoin_mempool.specs.Answer.{rate}
use Rattle.rbitcoin_mempool.specs.Memory.{windows_seen}
use Rattle.rbitcoin_mempool.specs.Nearest.{neighbors}
use Rattle.rbitcoin_mempool.specs.Pairs.{windows_in}
use Rattle.rbitcoin_mempool.specs.Quantile.{quantile_of}
use Rattle.rbitcoin_mempool.specs.Scan.{now_of, rate_in, rate_sat_kvb, scan_refusal}
use Rattle.rbitcoin_mempool.specs.Windows.{held_in, stored_pairs, target_at}
use Rattle.rbitcoin_mempool.proofs.Refusals.{scan-accepted}
use Rattle.rbitcoin_mempool.proofs.Scans.{answer-given, answer-passed, rate-few, rate-found, rate_unsure, rate_untracked, tracked-windows}
use Rattle.rbitcoin_mempool.proofs.Targets.{found_at, found_none}
use Rattle.rbitcoin_mempool.proofs.fee_analog.history.AnalogHistory.rate_sat_kvb.Goals as goal
use Rattle.rbitcoin_mempool.proofs.fee_analog.history.AnalogHistory.rate_sat_kvb.Goals.{In_ok-check_scan, After-count_in-pairs, then-pairs-lt-ANALOG_READY_PAIRS-via-then-pairs-lt-ANALOG_READY_PAIRS, then-pairs-lt-ANALOG_READY_PAIRS-via-else-pairs-lt-ANALOG_READY_PAIRS+then-not-in_unit}

-- nothing is refused
taken : (c : In_ok-check_scan) → scan_refusal c.args.self.now (length c.args.lists.hurdles.now) (length c.args.lists.befores.now) (length c.args.lists.aheads.now) (length c.args.scratch.now) ≡ 0
taken c = sym (c.in_ok-check_scan.ensures)

counted : (c : After-count_in-pairs) → c.count_in-pairs.result ≡ windows_in c.args.self.now.count c.args.n_blocks
unfolding windows_in
counted c = rw (← c.of.ensures.lookback, ← c.of.ensures.ahead) c.count_in-pairs.ensures

pub returns-in_err-check_scan-clause-rate : goal.returns-in_err-check_scan-clause-rate
unfolding rate_sat_kvb
returns-in_err-check_scan-clause-rate c =
    answer-passed _ _ _ (rate_in (windows_seen c.args.self.now c.args.lists) c.args.n_blocks c.args.confidence) c.from_residual.ensures.1
    (c.in_err-check_scan.ensures)

pub find_target-requires : goal.find_target-requires
find_target-requires c = let v = scan-accepted _ _ _ _ _ (taken c) in v.0.few

pub returns-in_default-clause-rate : goal.returns-in_default-clause-rate
unfolding rate_sat_kvb
returns-in_default-clause-rate c =
    let z = taken (goal.at.returns-in_default-clause-rate c).In_ok-check_scan in
    rate_untracked (windows_seen c.args.self.now c.args.lists) c.args.n_blocks c.args.confidence (found_none _ _ c.in_default.ensures) ∙ answer-given _ _ z

pub count_in-pairs-requires : goal.count_in-pairs-requires
count_in-pairs-requires c =
    let v = (scan-accepted _ _ _ _ _ (taken (goal.at.count_in-pairs-requires c).In_ok-check_scan)).0 in omega arith

pub returns-then-pairs-lt-ANALOG_READY_PAIRS-clause-rate : goal.returns-then-pairs-lt-ANALOG_READY_PAIRS-clause-rate
unfolding rate_sat_kvb
returns-then-pairs-lt-ANALOG_READY_PAIRS-clause-rate c =
    let a = goal.at.returns-then-pairs-lt-ANALOG_READY_PAIRS-clause-rate c in
    let w = windows_seen c.args.self.now c.args.lists in
    let found = found_at c.args.self.now c.args.n_blocks _ c.in-Some.ensures in
    let n = counted a.After-count_in-pairs in
    elim c.then-pairs-lt-ANALOG_READY_PAIRS.branch [
      | then-pairs-lt-ANALOG_READY_PAIRS-via-then-pairs-lt-ANALOG_READY_PAIRS v ↦ rate-few w c.args.n_blocks c.args.confidence found.1 (omega arith)
      | then-pairs-lt-ANALOG_READY_PAIRS-via-else-pairs-lt-ANALOG_READY_PAIRS+then-not-in_unit v ↦ rate_unsure w c.args.n_blocks c.args.confidence found.1 (sym v.in_unit.ensures ∙ not-true _ (not_from_false _ v.if-not-in_unit.true))
    ]
    ∙ answer-given _ _ (taken a.In_ok-check_scan)

pub scan-requires : goal.scan-requires
scan-requires c =
    let a = goal.at.scan-requires c in
    let v = scan-accepted _ _ _ _ _ (taken a.In_ok-check_scan) in
    let found = found_at c.args.self.now c.args.n_blocks _ c.in-Some.ensures in
    let n = counted a.After-count_in-pairs in
    record {
      d_lt_tracked = omega arith;
      bound = rw (← found.0, tracked-windows c.args.self.now c.args.n_blocks found.1 c.args.self.now.count) (omega arith);
      capacity_in_bounds = v.1;
      valid = v.0;
    }

pub returns-clause-rate : goal.returns-clause-rate
unfolding rate_sat_kvb
returns-clause-rate c =
    let a = goal.at.returns-clause-rate c in
    let w = windows_seen c.args.self.now c.args.lists in
    let found = found_at c.args.self.now c.args.n_blocks _ c.in-Some.ensures in
    let n = counted a.After-count_in-pairs in
    let at : ℕ → ℕ = λ d. quantile_of (neighbors (now_of (held_in w) (target_at c.args.self.now d)) (stored_pairs w d)) c.args.confidence in
    ap rate (c.scan.ensures ∙ ap at (sym found.0))
    ∙ rate-found w c.args.n_blocks c.args.confidence found.1 (omega arith) (sym c.in_unit.ensures ∙ not-false _ (not_from_true _ c.if-not-in_unit.false))
    ∙ answer-given _ _ (taken a.In_ok-check_scan)
