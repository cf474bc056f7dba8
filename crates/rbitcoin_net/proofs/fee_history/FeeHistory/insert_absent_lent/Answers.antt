-- `fee_history::FeeHistory::insert_absent_lent` meets its contract. Assumes nothing.
use mathlib.Core.Path.{sym, ◌∙◌}
use native.Mathlib.Omega.{arith}
use Rattle.rbitcoin_net.specs.Hashes.{hash_of}
use Rattle.rbitcoin_net.specs.Inserts.{whole}
use Rattle.rbitcoin_net.specs.Memory.{lent_of}
use Rattle.rbitcoin_net.proofs.Inserting.{hash-whole}
use Rattle.rbitcoin_net.proofs.Preloads.{preload-held, preload-refused, preload-done}
use Rattle.rbitcoin_net.proofs.Connecting.{sought, placed}
use Rattle.rbitcoin_net.proofs.Preloading.{held-is, preload_there, preload-full, preload_free, preload-fits}
use Rattle.rbitcoin_net.proofs.fee_history.FeeHistory.insert_absent_lent.Goals as goal

pub returns-then-is_at-clause-inserted : goal.returns-then-is_at-clause-inserted
returns-then-is_at-clause-inserted c =
    let s = c.args.self.now in
    let m = lent_of c.args.rows.now c.args.hashes.now c.args.windows.now in
    let h = c.args.new.height in
    let hash = hash_of c.args.new.hash in
    let p = sought c.args.new.height s m _ c.requires (rw c.lists.ensures.heights at c.lower_bound-p.ensures.value) in
    let t = rw c.lists-2.ensures.heights at c.is_at.ensures in
    preload-done h c.args.new.block hash (hash-whole c.args.new.hash) (whole s m) (whole s m)
    (preload_there h s m _ _ c.requires p t c.if-is_at.true)
    (sym (preload-held h c.args.new.block hash s m (sym (held-is h s m _ _ c.requires p t) ∙ c.if-is_at.true)))

pub returns-then-self-clause-inserted : goal.returns-then-self-clause-inserted
returns-then-self-clause-inserted c =
    let s = c.args.self.now in
    let m = lent_of c.args.rows.now c.args.hashes.now c.args.windows.now in
    let p = sought c.args.new.height s m _ c.requires (rw c.lists.ensures.heights at c.lower_bound-p.ensures.value) in
    let t = rw c.lists-2.ensures.heights at c.is_at.ensures in
    preload-refused c.args.new.height c.args.new.block (hash_of c.args.new.hash) (hash-whole c.args.new.hash) (whole s m) 4
    (preload-full c.args.new.height s m _ _ c.requires p t c.if-is_at.false c.if-self.true) (λ e. omega arith)

pub preload-requires : goal.preload-requires
preload-requires c =
    let s = c.args.self.now in
    let m = lent_of c.args.rows.now c.args.hashes.now c.args.windows.now in
    let h = c.args.new.height in
    let l = c.lower_bound-p.ensures in
    let p = sought h s m _ c.requires (rw c.lists.ensures.heights at l.value) in
    let t = rw c.lists-2.ensures.heights at c.is_at.ensures in
    record {
      placed = placed h s m _ c.requires p l.low (l.high (omega arith));
      absent = sym (held-is h s m _ _ c.requires p t) ∙ c.if-is_at.false;
      room = preload-fits s m c.requires c.if-self.false;
    }

pub returns-clause-inserted : goal.returns-clause-inserted
returns-clause-inserted c =
    let s = c.args.self.now in
    let m = lent_of c.args.rows.now c.args.hashes.now c.args.windows.now in
    let h = c.args.new.height in
    let p = sought c.args.new.height s m _ c.requires (rw c.lists.ensures.heights at c.lower_bound-p.ensures.value) in
    let t = rw c.lists-2.ensures.heights at c.is_at.ensures in
    preload-done h c.args.new.block (hash_of c.args.new.hash) (hash-whole c.args.new.hash) (whole s m) _
    (preload_free h s m _ _ c.requires p t c.if-is_at.false c.if-self.false) c.preload.ensures.inserted
