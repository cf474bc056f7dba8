-- `fee_history::rates::push_rows` meets its contract. Assumes nothing.
use Prim.Native.Nat.{◌+◌, ◌-◌}
use mathlib.Core.Path.{◌≡◌}
use Rattle.slices.specs.Lists.{tabulate}
use Rattle.rbitcoin_mempool.specs.Memory.{windows_of, SameLent}
use Rattle.rbitcoin_mempool.specs.Windows.{push_all}
use Rattle.rbitcoin_net.specs.History.{hurdles_of}
use Rattle.rbitcoin_net.specs.Lent.{row_at}
use Rattle.rbitcoin_net.specs.Memory.{rows_seen}
use Rattle.rbitcoin_net.proofs.fee_history.rates.push_rows.Given as goal

abbrev pub invariant-loop-at : goal.invariant-loop-at
invariant-loop-at l =
    let rest = tabulate (row_at (rows_seen l.fn.rows)) l.at (l.start + l.n - l.at) in
    let all = tabulate (row_at (rows_seen l.fn.rows)) l.start l.n in
    record {
      pushed : push_all (hurdles_of rest) (windows_of l.analog l.windows)
          ≡ push_all (hurdles_of all) (windows_of l.initial.analog l.initial.windows);
      lent : SameLent l.initial.windows l.windows;
    }
