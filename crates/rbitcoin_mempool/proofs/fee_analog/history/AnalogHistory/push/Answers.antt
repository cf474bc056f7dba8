-- `fee_analog::history::AnalogHistory::push` meets its contract. Assumes nothing.
use Rattle.std.proofs.Common.{sym, ap, ◌∙◌, subst, rules}
use Rattle.rbitcoin_mempool.specs.Ends.{newest}
use Rattle.rbitcoin_mempool.specs.Windows.{store_of, with_pairs}
use Rattle.rbitcoin_mempool.proofs.Pushes.{ValidIn, opened-at, pairs-put, push-done, push-refused, push-sized, store_valid}
use Rattle.rbitcoin_mempool.proofs.Refusals.{accepted, some_number, verdict_done, verdict_passed}
use Rattle.rbitcoin_mempool.proofs.fee_analog.history.AnalogHistory.push.Goals as goal

pub returns-in_err-check_push : goal.returns-in_err-check_push
returns-in_err-check_push c =
    let e = c.in_err-check_push.ensures ∙ push-sized c.args.self.now c.args.memory.now c.lists.result c.lists.ensures.hurdles c.lists.ensures.befores c.lists.ensures.aheads in
    record {
      refusal = verdict_passed _ _ _ c.from_residual.ensures.1 e;
      after = push-refused _ c.args.hurdle (newest c.args.end) (some_number _ _ e);
      lent = search rules;
    }

pub make_room-requires : goal.make_room-requires
make_room-requires c =
    (accepted _ _ _ _ (sym (c.in_ok-check_push.ensures ∙ push-sized c.args.self.now c.args.memory.now c.lists.result c.lists.ensures.hurdles c.lists.ensures.befores c.lists.ensures.aheads))).valid

pub store-requires : goal.store-requires
store-requires c =
    let z = sym (c.in_ok-check_push.ensures ∙ push-sized c.args.self.now c.args.memory.now c.lists.result c.lists.ensures.hurdles c.lists.ensures.befores c.lists.ensures.aheads) in
    let o = opened-at _ _ (newest c.args.end) z c.make_room.ensures.room in
    record { valid = o.valid; room = o.room }

pub put_pairs-requires : goal.put_pairs-requires
put_pairs-requires c =
    let z = sym (c.in_ok-check_push.ensures ∙ push-sized c.args.self.now c.args.memory.now c.lists.result c.lists.ensures.hurdles c.lists.ensures.befores c.lists.ensures.aheads) in
    let o = opened-at _ _ (newest c.args.end) z c.make_room.ensures.room in
    subst ValidIn (sym c.store.ensures.stored) (store_valid _ c.args.hurdle (newest c.args.end) o)

pub returns : goal.returns
returns c =
    let h = c.args.hurdle in
    let end = newest c.args.end in
    let e = c.in_ok-check_push.ensures ∙ push-sized c.args.self.now c.args.memory.now c.lists.result c.lists.ensures.hurdles c.lists.ensures.befores c.lists.ensures.aheads in
    record {
      refusal = verdict_done _ e;
      after = pairs-put _ _ _ _ _ _ _ _ c.put_pairs.ensures.hurdles c.put_pairs.ensures.befores c.put_pairs.ensures.aheads
          ∙ ap (with_pairs end) (c.store.ensures.stored ∙ ap (store_of end h) c.make_room.ensures.room)
          ∙ push-done _ h end (sym e);
      lent = search rules;
    }
