-- `fee_est::publish::publish_all` meets its contract. The loop keeps `Writing`. Assumes nothing.
use Rattle.std.specs.Prelude.{length}
use Rattle.rbitcoin_mempool.specs.Hold.{published_at}
use Rattle.rbitcoin_mempool.specs.Lists.{SameLists, args_in}
use Rattle.rbitcoin_mempool.proofs.Publishing.{Writing}
use Rattle.rbitcoin_mempool.proofs.fee_est.publish.publish_all.Given as goal

abbrev pub invariant-loop-i : goal.invariant-loop-i
invariant-loop-i l = record {
  writing : Writing (published_at (args_in l.lists)) (length l.lists.depths.now) l.out.numbers.now l.out.marks.now l.i;
  same_lists : SameLists l.out l.fn.out;
}
