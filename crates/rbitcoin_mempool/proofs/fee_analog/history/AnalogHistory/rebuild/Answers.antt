-- `fee_analog::history::AnalogHistory::rebuild` meets its contract. The loop's invariant: what is to come, pushed onto what there is, is all pushed onto nothing, and there is room for it. Assumes nothing.
use Rattle.std.proofs.Common.{◌≡◌, get_or, sym, refl, ap, ◌∙◌, subst, arith, rules}
use Rattle.rbitcoin_mempool.specs.Memory.{windows_of}
use Rattle.rbitcoin_mempool.specs.Windows.{Windows, push_back_of, rebuild_refusal_of}
use Rattle.rbitcoin_mempool.proofs.Kept.{Good, push-back_good}
use Rattle.rbitcoin_mempool.proofs.Pushes.{rebuild-sized}
use Rattle.rbitcoin_mempool.proofs.Rebuilds.{all_done, all_turn, empty-is_good, push-back-count, rebuild-done, rebuild-refused}
use Rattle.rbitcoin_mempool.proofs.Refusals.{accepts, not_refused, rebuild-accepted, some_number, verdict_done, verdict_passed}
use Rattle.rbitcoin_mempool.proofs.Views.{push-back-set-up}
use Rattle.rbitcoin_mempool.proofs.fee_analog.history.AnalogHistory.rebuild.Goals as goal
use Rattle.rbitcoin_mempool.proofs.fee_analog.history.AnalogHistory.rebuild.Goals.{In_ok-check_rebuild}

-- nothing is refused
taken : (c : In_ok-check_rebuild) → rebuild_refusal_of c.args.from.now (windows_of c.args.self.now c.args.memory.now) ≡ 0
taken c = sym (c.in_ok-check_rebuild.ensures ∙ rebuild-sized c.args.self.now c.args.memory.now c.lists.result c.lists.ensures.hurdles c.lists.ensures.befores c.lists.ensures.aheads c.args.from.now)

pub returns-in_err-check_rebuild : goal.returns-in_err-check_rebuild
returns-in_err-check_rebuild c =
    let e = c.in_err-check_rebuild.ensures ∙ rebuild-sized c.args.self.now c.args.memory.now c.lists.result c.lists.ensures.hurdles c.lists.ensures.befores c.lists.ensures.aheads c.args.from.now in
    record {
      refusal = verdict_passed _ _ _ c.from_residual.ensures.1 e;
      after = rebuild-refused c.args.from.now _ (some_number _ _ e);
      lent = search rules;
    }

pub loop-hurdle-init : goal.loop-hurdle-init
loop-hurdle-init c =
    let z = taken (goal.at.loop-hurdle-init c).In_ok-check_rebuild in
    record {
      after = refl;
      good = empty-is_good c.args.from.now (windows_of c.args.self.now c.args.memory.now) z;
      room = let l = (rebuild-accepted _ c.args.self.now _ _ _ z).1 in omega arith;
      lent = search rules;
    }

pub loop-hurdle-preserved : goal.loop-hurdle-preserved
loop-hurdle-preserved c =
    let l = c.loop-hurdle in
    let w = windows_of l.self l.memory in
    let z = accepts l.self _ _ _ l.invariant.good.valid (omega arith) in
    let h = get_or c.args.from.now l.hurdle-index 0 in
    let n = push-back-count w h z in
    let k = (push-back-set-up w h).same_capacity in
    let e = c.push_back.ensures.after in
    record {
      after = all_turn c.args.from.now l.hurdle-index w _ _ (omega arith) e l.invariant.after;
      good = subst Good (sym e) (push-back_good w h l.invariant.good);
      room = let f : c.push_back.new.self ≡ (push_back_of h w).state = ap (λ (u : Windows). u.state) e in rw f (omega (arith, l.invariant.room));
      lent = search rules;
    }

pub returns-in_err-push_back : goal.returns-in_err-push_back
returns-in_err-push_back c =
    let l = c.loop-hurdle in
    absurd (not_refused _ _ c.in_err-push_back.ensures.refusal (accepts l.self _ _ _ l.invariant.good.valid (omega arith)))

pub returns : goal.returns
returns c =
    let z = taken (goal.at.returns c).In_ok-check_rebuild in
    record {
      refusal = verdict_done _ (sym z);
      after = all_done c.args.from.now c.loop-hurdle.hurdle-index _ _ (omega arith) c.loop-hurdle.invariant.after ∙ rebuild-done c.args.from.now _ z;
      lent = search rules;
    }
