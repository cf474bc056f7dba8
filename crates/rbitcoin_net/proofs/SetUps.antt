-- Over any run of calls, on any state, the budget, the targets and the capacity stay as they are. Assumes nothing.
use Prim.Native.Nat.{ℕ, zero, suc, ◌-◌}
use mathlib.Core.Path.{refl, ◌∙◌}
use mathlib.Core.Bool.{Bool, true, false, cond, not, ◌&&◌}
use mathlib.Core.List.{List, [], ◌∷◌}
use mathlib.Core.Option.{Option, none, some}
use lib.Dec.{eqb, ltb}
use lib.ListN.{get_or}
use Rattle.rbitcoin_mempool.specs.declared.fee_analog.history.AnalogHistory.{AnalogHistory}
use Rattle.rbitcoin_mempool.specs.Reached.{SetUpAs as WindowsSetUpAs}
use Rattle.rbitcoin_mempool.specs.Windows.{Windows, emptied, pop_back_of, pop_front_of, push_back_of, push_front_of}
use Rattle.rbitcoin_mempool.proofs.Rebuilds.{all-set-up}
use Rattle.rbitcoin_mempool.proofs.Views.{pop-back-set-up, pop_front-set-up, push-back-set-up, push_front-set-up, same-set-up, set-up, set-up_then}
use Rattle.rbitcoin_net.specs.declared.fee_history.FeeHistory.{FeeHistory}
use Rattle.rbitcoin_net.specs.declared.fee_history.HistoricalFeeBlock.{HistoricalFeeBlock}
use Rattle.rbitcoin_net.specs.Map.{Entry}
use Rattle.rbitcoin_net.specs.History.{hurdle_of, hurdles_of, next}
use Rattle.rbitcoin_net.specs.Lent.{Rows, Hashes, held_rows, windows_of}
use Rattle.rbitcoin_net.specs.Search.{place_of, is_held}
use Rattle.rbitcoin_net.specs.Cuts.{cut_at, drop_from, forget_row, forget_rows, truncate_refusal_of}
use Rattle.rbitcoin_net.specs.Evictions.{Hashed, evict_in, evict_oldest, evict_row, evict_rows}
use Rattle.rbitcoin_net.specs.Rooms.{hold_at}
use Rattle.rbitcoin_net.specs.Inserts.{Filed, Whole, insert_if_absent_in, insert_if_absent_refusal, insert_in, insert_refusal, preload_windows, push_rate, store_in}
use Rattle.rbitcoin_net.specs.Rates.{Rated, answered_from, rates_in, rates_refusal_of, refreshed, windows_with}
use Rattle.rbitcoin_net.specs.Runs.{Call, SetUpAs, ask, call_in, connect, cut, other, preload, rated_of, run_in}

unchanged : (s : FeeHistory) → SetUpAs s s
unchanged s = record { same_budget = refl; same_windows = same-set-up s.analog }

followed : {s t u : FeeHistory} → SetUpAs s t → SetUpAs t u → SetUpAs s u
followed h k = record { same_budget = k.same_budget ∙ h.same_budget; same_windows = set-up_then h.same_windows k.same_windows }

chosen : {A : Type 0} (f : A → FeeHistory) (b : Bool) (t u : A) {s : FeeHistory} → SetUpAs s (f t) → SetUpAs s (f u) → SetUpAs s (f (cond b t u))
chosen f true t u h k = h
chosen f false t u h k = k

-- ---- rows that are no longer held
module _ (pop : AnalogHistory → AnalogHistory) (p : (a : AnalogHistory) → WindowsSetUpAs a (pop a)) where
  forget-set-up : (mark size : ℕ) (s : FeeHistory) → SetUpAs s (forget_row pop mark size s)
  unfolding forget_row
  forget-set-up mark size s = record { same_budget = refl; same_windows = go (eqb mark 1 && not s.analog_stale) }
    where
      go : (b : Bool) → WindowsSetUpAs s.analog (cond b (pop s.analog) s.analog)
      go true = p s.analog
      go false = same-set-up s.analog

  rows-set-up : (m : Rows) (n i : ℕ) (s : FeeHistory) → SetUpAs s (forget_rows pop m i n s)
  unfolding forget_rows
  rows-set-up m zero i s = unchanged s
  rows-set-up m (suc n) i s = followed (forget-set-up (get_or m.marks i 0) (get_or m.sizes i 0) s) (rows-set-up m n (suc i) _)

pub drop-set-up : (k : ℕ) (m : Rows) (z : Hashes) (s : FeeHistory) → SetUpAs s (drop_from k m z s)
unfolding drop_from cut_at
drop-set-up k m z s =
    let h = rows-set-up pop_back_of pop-back-set-up m _ (place_of m.heights s k) s in
    record { same_budget = h.same_budget; same_windows = h.same_windows }

pub evict-row-set-up : (height mark size : ℕ) (x : Hashed) → SetUpAs x.state (evict_row height mark size x).state
unfolding evict_row
evict-row-set-up height mark size x =
    let h = forget-set-up pop_front_of pop_front-set-up mark size x.state in
    record { same_budget = h.same_budget; same_windows = h.same_windows }

evict-rows-set-up : (m : Rows) (n : ℕ) (x : Hashed) → SetUpAs x.state (evict_rows m n x).state
unfolding evict_rows
evict-rows-set-up m zero x =
    chosen (λ (y : Hashed). y.state) (ltb x.state.budget x.state.txstat_bytes) _ x
    (record { same_budget = refl; same_windows = same-set-up x.state.analog })
    (unchanged x.state)
evict-rows-set-up m (suc n) x =
    chosen (λ (y : Hashed). y.state) (ltb x.state.budget x.state.txstat_bytes) _ x
    (followed (evict-row-set-up _ _ _ x) (evict-rows-set-up m n (evict_oldest m x)))
    (unchanged x.state)

-- ---- a row put in
store-set-up : (q h : ℕ) (b : HistoricalFeeBlock) (hash : Option (List ℕ)) (x : Filed) → SetUpAs x.state (store_in q h b hash x).state
unfolding store_in hold_at evict_in
store-set-up q h b hash x =
    let e = evict-rows-set-up _ _ _ in
    record { same_budget = e.same_budget; same_windows = e.same_windows }

pub rate-set-up : (push : ℕ → Windows → Windows) → ((w : Windows) (x : ℕ) → WindowsSetUpAs w.state (push x w).state) → (rate : Option ℕ) (stale : Bool) (w : Windows) → WindowsSetUpAs w.state (push_rate push rate stale w).state
unfolding push_rate
rate-set-up push p none stale w = same-set-up w.state
rate-set-up push p (some r) true w = same-set-up w.state
rate-set-up push p (some r) false w = p w r

pub preload-windows-set-up : (q n : ℕ) (rate : Option ℕ) (stale : Bool) (w : Windows) → WindowsSetUpAs w.state (preload_windows q n rate stale w).state
unfolding preload_windows
preload-windows-set-up q n rate stale w = go (eqb q n) (eqb q 0)
  where
    go : (a b : Bool) → WindowsSetUpAs w.state (cond a (push_rate push_back_of rate stale w) (cond b (push_rate push_front_of rate stale w) w)).state
    go true b = rate-set-up push_back_of push-back-set-up rate stale w
    go false true = rate-set-up push_front_of push_front-set-up rate stale w
    go false false = same-set-up w.state

-- ---- each call
insert-set-up : (h : ℕ) (b : HistoricalFeeBlock) (hash : Option (List ℕ)) (x : Whole) → SetUpAs x.state (insert_in h b hash x).state
unfolding insert_in
insert-set-up h b hash x =
    let m = x.memory in
    let s = drop_from h m.rows m.hashes x.state in
    let d = drop-set-up h m.rows m.hashes x.state in
    let r = rate-set-up push_back_of push-back-set-up (hurdle_of b) s.analog_stale (windows_of s m) in
    let e = store-set-up s.count h b hash _ in
    followed d (record { same_budget = e.same_budget; same_windows = set-up_then r e.same_windows })

preload-set-up : (h : ℕ) (b : HistoricalFeeBlock) (hash : Option (List ℕ)) (x : Whole) → SetUpAs x.state (insert_if_absent_in h b hash x).state
unfolding insert_if_absent_in
preload-set-up h b hash x =
    let m = x.memory in
    let s = x.state in
    let q = place_of m.rows.heights s h - s.start in
    let r = preload-windows-set-up q s.count (hurdle_of b) s.analog_stale (windows_of s m) in
    let e = store-set-up q h b hash _ in
    chosen (λ (y : Whole). y.state) (is_held m.rows.heights s h) x _ (unchanged s)
    (record { same_budget = e.same_budget; same_windows = set-up_then r e.same_windows })

pub refreshed-set-up : (stale : Bool) (es : List (Entry HistoricalFeeBlock)) (w : Windows) → WindowsSetUpAs w.state (refreshed stale es w).state
unfolding refreshed
refreshed-set-up true es w = set-up_then (set-up w.state 0 0) (all-set-up (hurdles_of es) (emptied w))
refreshed-set-up false es w = same-set-up w.state

pub rates-set-up : (z : ℕ) (m : Rows) (x : Rated) → SetUpAs x.state (rates_in z m x).state
unfolding rates_in answered_from
rates-set-up z m x =
    chosen (λ (y : Rated). y.state) x.state.kept x _ (unchanged x.state)
    (record { same_budget = refl; same_windows = refreshed-set-up x.state.analog_stale (held_rows m x.state) (windows_with x) })

call-set-up : (c : Call) (x : Whole) → SetUpAs x.state (call_in c x).state
unfolding call_in
call-set-up (connect h b z) x = chosen (λ (y : Whole). y.state) (eqb (insert_refusal h x.state x.memory) 0) _ x (insert-set-up h b z x) (unchanged x.state)
call-set-up (preload h b z) x = chosen (λ (y : Whole). y.state) (eqb (insert_if_absent_refusal h x.state x.memory) 0) _ x (preload-set-up h b z x) (unchanged x.state)
call-set-up (cut h) x =
    chosen (λ (y : Whole). y.state) (eqb (truncate_refusal_of x.state x.memory.rows x.memory.hashes) 0) _ x
    (drop-set-up (next h) x.memory.rows x.memory.hashes x.state) (unchanged x.state)
call-set-up (ask z n o) x =
    chosen (λ (y : Whole). y.state) (eqb (rates_refusal_of x.memory.rows (rated_of x) z n o) 0) _ x
    (rates-set-up z x.memory.rows (rated_of x)) (unchanged x.state)
call-set-up other x = unchanged x.state

pub run-set-up : (cs : List Call) (x : Whole) → SetUpAs x.state (run_in cs x).state
unfolding run_in
run-set-up [] x = unchanged x.state
run-set-up (c ∷ cs) x = followed (call-set-up c x) (run-set-up cs (call_in c x))
