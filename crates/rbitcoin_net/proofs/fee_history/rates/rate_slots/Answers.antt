-- `fee_history::rates::rate_slots` meets its contract. Assumes nothing.
use Prim.Native.Nat.{◌≤◌, ◌<◌}
use mathlib.Core.Path.{◌≡◌, refl, ap, ◌∙◌}
use native.Mathlib.Omega.{arith}
use lib.ListN.{length}
use borrow.Author.Rules.{rules}
use Rattle.rbitcoin_mempool.specs.Answer.{answer}
use Rattle.rbitcoin_mempool.specs.Memory.{windows_seen}
use Rattle.rbitcoin_mempool.specs.Rates.{number_of, mark_of}
use Rattle.rbitcoin_net.specs.History.{found}
use Rattle.rbitcoin_net.specs.Rates.{rate_from}
use Rattle.rbitcoin_net.proofs.Passed.{found_is}
use Rattle.rbitcoin_net.proofs.Rating.{slots_turn, scratch-same, rate_read}
use Rattle.rbitcoin_net.proofs.fee_history.rates.rate_slots.Goals as goal

pub loop-d-preserved : goal.loop-d-preserved
loop-d-preserved c =
    let d = c.loop-d.d in
    let h : d < c.args.analog.now.tracked = c.loop-d-test.true in
    let few : c.args.analog.now.tracked ≤ 16 = c.requires in
    let w = windows_seen c.args.analog.now c.args.lists in
    let z = length c.args.scratch.now in
    let v = c.loop-d.invariant in
    let q = c.rate_sat_kvb-answer.result in
    let e : found (answer q) ≡ rate_from w z d =
    rate_read w z (length c.loop-d.scratch) d _ _ _ c.rate_sat_kvb-answer.ensures.rate v.long refl
    c.confidence_for.ensures in
    let r = found_is q _ c.unwrap_or.ensures ∙ e in
    let p = c.put.ensures in
    record {
      long = c.rate_sat_kvb-answer.auto.scratch ∙ v.long;
      numbers = rw p.numbers_after
          (slots_turn (λ k. number_of (rate_from w z k)) c.loop-d.out.numbers.now d v.numbers _ (omega arith) (ap number_of r));
      marks = rw p.marks_after
          (slots_turn (λ k. mark_of (rate_from w z k)) c.loop-d.out.marks.now d v.marks _ (omega arith) (ap mark_of r));
      scratch = λ none_found.
          scratch-same (answer q) c.loop-d.scratch _ c.rate_sat_kvb-answer.ensures.scratch_after
          (e ∙ none_found d (omega arith))
          ∙ v.scratch (λ k u. none_found k (omega arith));
      lent = search rules;
    }
