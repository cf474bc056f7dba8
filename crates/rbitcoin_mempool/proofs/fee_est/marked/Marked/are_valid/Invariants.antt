-- `fee_est::marked::Marked::are_valid` meets its contract. The loop keeps whether each mark so far is 0 or 1. Assumes nothing.
use Rattle.std.specs.Prelude.{◌≡◌, nat_le, slice_index}
use Rattle.slices.specs.Every.{every}
use Rattle.rbitcoin_mempool.proofs.fee_est.marked.Marked.are_valid.Given as goal

abbrev pub invariant-loop-mark : goal.invariant-loop-mark
invariant-loop-mark l = l.valid ≡ every (λ k. nat_le (slice_index l.self.marks.now k) 1) l.mark-index
