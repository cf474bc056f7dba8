-- `fee_est::hold::never_descends` meets its contract. The loop keeps whether no depth so far is less than the one before it. Assumes nothing.
use Rattle.std.specs.Prelude.{◌≡◌, suc, ◌-◌, ◌≤◌, length, drop, nat_le, slice_index}
use Rattle.std.specs.Slice.Iter.{windows_size, windows_rest}
use Rattle.slices.specs.Every.{every}
use Rattle.rbitcoin_mempool.proofs.fee_est.hold.never_descends.Given as goal

abbrev pub invariant-loop-pair : goal.invariant-loop-pair
invariant-loop-pair l =
    let rest = windows_rest l.pair-iterator in
    let i = length l.depths - length rest in
    record {
      size : windows_size l.pair-iterator ≡ 2;
      within : length rest ≤ length l.depths;
      before : i ≤ length l.depths - 1;
      end : rest ≡ drop i l.depths;
      kept : l.keeps ≡ every (λ k. nat_le (slice_index l.depths k) (slice_index l.depths (suc k))) i;
    }
