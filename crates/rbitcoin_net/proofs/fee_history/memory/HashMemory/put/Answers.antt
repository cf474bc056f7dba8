-- `fee_history::memory::HashMemory::put` meets its contract. Assumes nothing.
use native.Mathlib.Omega.{arith}
use mathlib.Core.Path.{◌≡◌, ◌∙◌, ap}
use mathlib.Core.List.{List, ◌++◌}
use Prim.Native.Nat.{ℕ, ◌+◌, ◌-◌, ◌*◌}
use lib.ListN.{length, set, take, drop}
use Rattle.rbitcoin_net.specs.Lent.{hashes}
use Rattle.rbitcoin_net.proofs.Hashes.{put-bytes}
use borrow.Author.Rules.{rules}
use Rattle.rbitcoin_net.proofs.fee_history.memory.HashMemory.put.Goals as goal

pub returns-clause-put : goal.returns-clause-put
returns-clause-put c =
    let l : length c.args.hash ≡ 32 = search rules in
    let q = 32 * c.args.q in
    let x = c.args.self.now.bytes.now in
    let e = ap (λ (y : List ℕ). take q x ++ (y ++ drop (q + 32 - q) (drop q x))) c.copy_front.ensures
    ∙ put-bytes x c.args.hash q l (omega (arith, c.requires)) in
    ap (hashes (set c.args.self.now.heights.now c.args.q c.args.height)) e
