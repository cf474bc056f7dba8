-- `fee_history::FeeHistory::evict` meets its contract. Assumes nothing.
use Prim.Native.Nat.{◌+◌}
use mathlib.Core.Path.{◌≡◌}
use lib.ListN.{length}
use Rattle.rbitcoin_net.specs.Memory.{rows_seen, hashes_of, SameHashes}
use Rattle.rbitcoin_net.specs.Evictions.{hashed, evict_rows}
use Rattle.rbitcoin_net.proofs.Evictions.{Going}
use Rattle.rbitcoin_net.proofs.fee_history.FeeHistory.evict.Given as goal

abbrev pub invariant-loop-at : goal.invariant-loop-at
invariant-loop-at l =
    let m = rows_seen l.rows in
    let s = l.initial.self in
    record {
      at : l.at ≡ l.self.start;
      end : l.self.start + l.self.count ≡ s.start + s.count;
      going : Going m (length m.heights) (length m.marks) (length m.rates) (length m.sizes)
          (evict_rows m s.count (hashed s (hashes_of l.initial.hashes))) (hashed l.self (hashes_of l.hashes));
      lent : SameHashes l.initial.hashes l.hashes;
    }
