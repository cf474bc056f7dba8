-- `fee_history::memory::HashMemory::note_at` meets its contract. Assumes nothing.
use native.Mathlib.Omega.{arith}
use mathlib.Core.Path.{sym, subst}
use Prim.Native.Nat.{◌≤◌}
use lib.ListN.{length}
use Rattle.rbitcoin_net.specs.Lent.{Hashes}
use Rattle.rbitcoin_net.specs.Memory.{hashes_of}
use Rattle.rbitcoin_net.proofs.HashViews.{moved-reach}
use Rattle.rbitcoin_net.proofs.fee_history.memory.HashMemory.note_at.Goals as goal

pub put-requires-then-count-lt-RECENT_HASHES-clause-long : goal.put-requires-then-count-lt-RECENT_HASHES-clause-long
put-requires-then-count-lt-RECENT_HASHES-clause-long c =
    let r = c.requires.0 in
    subst (λ (y : Hashes). (144 ≤ length y.heights) × (4608 ≤ length y.bytes)) (sym c.copy_within.ensures.moved)
    (moved-reach (hashes_of c.args.self.now) _ _ _ r.heights r.bytes (omega arith) (omega arith))

pub put-requires-2-clause-long : goal.put-requires-2-clause-long
put-requires-2-clause-long c =
    let r = c.requires.0 in
    subst (λ (y : Hashes). (144 ≤ length y.heights) × (4608 ≤ length y.bytes)) (sym c.copy_within-2.ensures.moved)
    (moved-reach (hashes_of c.args.self.now) _ _ _ r.heights r.bytes (omega arith) (omega arith))
