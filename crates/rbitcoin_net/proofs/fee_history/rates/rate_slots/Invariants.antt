-- `fee_history::rates::rate_slots` meets its contract. Assumes nothing.
use Prim.Native.Nat.{ℕ, ◌<◌}
use mathlib.Core.Option.{none}
use mathlib.Core.Path.{◌≡◌}
use lib.ListN.{length}
use Rattle.slices.specs.Lists.{tabulate}
use Rattle.rbitcoin_mempool.specs.Lists.{SameLists}
use Rattle.rbitcoin_mempool.specs.Memory.{windows_seen}
use Rattle.rbitcoin_mempool.specs.Rates.{number_of, mark_of}
use Rattle.rbitcoin_mempool.proofs.Padding.{Padding}
use Rattle.rbitcoin_net.specs.Rates.{rate_from}
use Rattle.rbitcoin_net.proofs.fee_history.rates.rate_slots.Given as goal

abbrev pub invariant-loop-d : goal.invariant-loop-d
invariant-loop-d l =
    let w = windows_seen l.analog l.lists in
    let z = length l.initial.scratch in
    record {
      long : length l.scratch ≡ z;
      numbers : Padding (tabulate (λ k. number_of (rate_from w z k)) 0 16) l.out.numbers.now l.d;
      marks : Padding (tabulate (λ k. mark_of (rate_from w z k)) 0 16) l.out.marks.now l.d;
      scratch : ((k : ℕ) → k < l.d → rate_from w z k ≡ none) → l.scratch ≡ l.initial.scratch;
      lent : SameLists l.initial.out l.out;
    }
