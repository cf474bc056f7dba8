-- Who is refused with 4, by the held heights. Assumes nothing.
use Prim.Native.Nat.{ℕ, ◌+◌, ◌-◌}
use mathlib.Core.Path.{◌≡◌, sym, ◌∙◌, ap}
use mathlib.Core.Bool.{false, cond, ◌&&◌}
use native.Mathlib.Omega.{arith}
use lib.Dec.{eqb}
use lib.ListN.{length, get_or}
use borrow.Author.Tests.{le-ltb, eq-eqb}
use Rattle.slices.proofs.Lists.{tabulate-length}
use Rattle.rbitcoin_mempool.proofs.Refusals.{or-else_second}
use Rattle.rbitcoin_net.specs.declared.fee_history.FeeHistory.{FeeHistory}
use Rattle.rbitcoin_net.specs.Map.{Ascends, below, contains_key}
use Rattle.rbitcoin_net.specs.Lent.{Rows, Lent, row_at, held_rows, view, lent_refusal, Sound}
use Rattle.slices.specs.Search.{bisect}
use Rattle.rbitcoin_net.specs.Search.{place_of, is_at, is_held}
use Rattle.rbitcoin_net.specs.Inserts.{insert_refusal, insert_if_absent_refusal}
use Rattle.rbitcoin_net.proofs.Tables.{below_table}
use Rattle.rbitcoin_net.proofs.Search.{place_parts, contains-is}
use Rattle.rbitcoin_net.proofs.Refusals.{serves}

-- how many held heights are below one
below-count : (h : ℕ) (m : Rows) (s : FeeHistory) → Ascends (held_rows m s) → length (below h (held_rows m s)) ≡ place_of m.heights s h - s.start
unfolding held_rows
below-count h m s asc = ap length (below_table (row_at m) h s.start s.count (place_of m.heights s h) (place_parts m s h asc)) ∙ tabulate-length (row_at m) s.start (place_of m.heights s h - s.start)

-- of a sound state: a connect where the held heights below it fill the capacity, a preload where the height is absent and all held heights fill it
module _ (h : ℕ) (s : FeeHistory) (m : Lent) (x : Sound s m) where
  pub connect-full : insert_refusal h s m ≡ cond (eqb (length (below h (view s m).blocks)) s.analog.capacity) 4 0
  unfolding insert_refusal view
  connect-full =
      or-else_second (lent_refusal s m) (cond (eqb (place_of m.rows.heights s h - s.start) s.analog.capacity) 4 0) x.lent
      ∙ ap (λ n. cond (eqb n s.analog.capacity) 4 0) (sym (below-count h m.rows s x.ascends))

  pub preload-full : insert_if_absent_refusal h s m ≡ cond (contains_key h (view s m).blocks) 0 (cond (eqb (length (view s m).blocks) s.analog.capacity) 4 0)
  unfolding insert_if_absent_refusal view held_rows
  preload-full =
      let n = tabulate-length (row_at m.rows) s.start s.count in
      or-else_second (lent_refusal s m) (cond (is_held m.rows.heights s h) 0 (cond (eqb s.count s.analog.capacity) 4 0)) x.lent
      ∙ sym (λ i. cond (contains-is s m.rows h x.ascends i) 0 (cond (eqb (n i) s.analog.capacity) 4 0))

-- at capacity 0 every connect and every preload is 4, of any state whose memory serves
module _ (h : ℕ) (s : FeeHistory) (m : Lent) (e : lent_refusal s m ≡ 0) (z : s.analog.capacity ≡ 0) where
  none-held : (s.start ≡ 0) × (s.count ≡ 0)
  none-held = let v = serves s m e in let w = v.rows-within in (omega arith, omega arith)

  place_none : place_of m.rows.heights s h ≡ s.start
  unfolding place_of bisect
  place_none = ap (λ k. bisect k m.rows.heights h s.start (s.start + s.count)) none-held.1

  pub connect_nowhere : insert_refusal h s m ≡ 4
  unfolding insert_refusal
  connect_nowhere =
      let p = place_none in
      or-else_second (lent_refusal s m) (cond (eqb (place_of m.rows.heights s h - s.start) s.analog.capacity) 4 0) e
      ∙ ap (λ b. cond b 4 0) (eq-eqb (place_of m.rows.heights s h - s.start) s.analog.capacity (omega arith))

  absent : is_held m.rows.heights s h ≡ false
  unfolding is_at
  absent =
      let p = place_none in
      let n = none-held in
      let c = n.1 in
      ap (λ t. t && eqb (get_or m.rows.heights (place_of m.rows.heights s h) 0) h) (le-ltb (place_of m.rows.heights s h) (s.start + s.count) (omega arith))

  pub preload_nowhere : insert_if_absent_refusal h s m ≡ 4
  unfolding insert_if_absent_refusal
  preload_nowhere =
      let n = none-held in
      let c = n.1 in
      or-else_second (lent_refusal s m) (cond (is_held m.rows.heights s h) 0 (cond (eqb s.count s.analog.capacity) 4 0)) e
      ∙ (λ i. cond (absent i) 0 (cond (eqb s.count s.analog.capacity) 4 0))
      ∙ ap (λ b. cond b 4 0) (eq-eqb s.count s.analog.capacity (omega arith))
