-- `fee_history::FeeHistory::insert_lent` meets its contract. Assumes nothing.
use Rattle.std.proofs.Common.{rules}
use native.Mathlib.Omega.{arith}
use Rattle.rbitcoin_net.specs.Hashes.{hash_of}
use Rattle.rbitcoin_net.specs.Inserts.{whole}
use Rattle.rbitcoin_net.specs.Memory.{lent_of}
use Rattle.rbitcoin_net.proofs.Inserting.{hash-whole}
use Rattle.rbitcoin_net.proofs.Connects.{insert-refused, insert-done}
use Rattle.rbitcoin_net.proofs.Connecting.{sought, insert-full, insert_free, insert-fits, placed}
use Rattle.rbitcoin_net.proofs.fee_history.FeeHistory.insert_lent.Goals as goal

pub returns-then-p-self-clause-inserted : goal.returns-then-p-self-clause-inserted
returns-then-p-self-clause-inserted c =
    let s = c.args.self.now in
    let m = lent_of c.args.rows.now c.args.hashes.now c.args.windows.now in
    let p = sought c.args.new.height s m _ c.requires (rw c.lists.ensures.heights at c.lower_bound-p.ensures.value) in
    insert-refused c.args.new.height c.args.new.block (hash_of c.args.new.hash) (search rules) (hash-whole c.args.new.hash)
    (whole s m) 4 (insert-full c.args.new.height s m _ c.requires p c.if-p-self.true) (λ e. omega arith)

pub connect-requires : goal.connect-requires
connect-requires c =
    let s = c.args.self.now in
    let m = lent_of c.args.rows.now c.args.hashes.now c.args.windows.now in
    let l = c.lower_bound-p.ensures in
    let p = sought c.args.new.height s m _ c.requires (rw c.lists.ensures.heights at l.value) in
    let high = l.high (omega arith) in
    record {
      placed = placed c.args.new.height s m _ c.requires p l.low high;
      room = insert-fits s m _ c.requires high c.if-p-self.false;
    }

pub returns-clause-inserted : goal.returns-clause-inserted
returns-clause-inserted c =
    let s = c.args.self.now in
    let m = lent_of c.args.rows.now c.args.hashes.now c.args.windows.now in
    let p = sought c.args.new.height s m _ c.requires (rw c.lists.ensures.heights at c.lower_bound-p.ensures.value) in
    insert-done c.args.new.height c.args.new.block (hash_of c.args.new.hash) (search rules) (hash-whole c.args.new.hash)
    (whole s m) _ (insert_free c.args.new.height s m _ c.requires p c.if-p-self.false) c.connect.ensures.inserted
