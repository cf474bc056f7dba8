-- A rate pushed onto the windows of a sound state: there is room, and what it does to the hurdles; and the hurdles of rows with one more. Assumes nothing.
use Prim.Native.Nat.{ℕ, ◌≤◌, ◌<◌}
use mathlib.Core.Path.{◌≡◌, refl, sym, ap}
use mathlib.Core.Bool.{Bool, true, false}
use mathlib.Core.List.{List, [], ◌∷◌, ◌++◌, append-nil}
use mathlib.Core.Option.{Option, none, some}
use native.Mathlib.Omega.{arith}
use lib.ListN.{length}
use Rattle.slices.proofs.Lists.{tabulate-length}
use Rattle.rbitcoin_mempool.specs.Pairs.{push_back, push_front}
use Rattle.rbitcoin_mempool.specs.Windows.{Windows, held_in, push_back_of, push_front_of, push_refusal_of}
use Rattle.rbitcoin_mempool.proofs.Kept.{Good, push-back_good, push_front_good, stored_good}
use Rattle.rbitcoin_mempool.proofs.Parts.{length-held}
use Rattle.rbitcoin_mempool.proofs.Refusals.{accepts}
use Rattle.rbitcoin_mempool.proofs.Views.{push-back-held, push_front-held}
use Rattle.rbitcoin_net.specs.declared.fee_history.HistoricalFeeBlock.{HistoricalFeeBlock}
use Rattle.rbitcoin_net.specs.declared.fee_history.FeeHistory.{FeeHistory}
use Rattle.rbitcoin_net.specs.Map.{Entry, entry}
use Rattle.rbitcoin_net.specs.History.{hurdle_of, cons_maybe, hurdles_of, push_maybe}
use Rattle.rbitcoin_net.specs.Lent.{Lent, held_rows, row_at, windows_of, Sound}
use Rattle.rbitcoin_net.specs.Inserts.{push_rate}
use Rattle.rbitcoin_net.proofs.Refusals.{serves}
use Rattle.rbitcoin_net.proofs.CutSound.{hurdles_append}

-- what a push at either end does
pub record Pushes (push : ℕ → Windows → Windows) (add : ℕ → List ℕ → List ℕ) : Type 0 where
  pub good : (r : ℕ) (w : Windows) → Good w → Good (push r w)
  pub adds : (r : ℕ) (w : Windows) → push_refusal_of w ≡ 0 → held_in (push r w) ≡ add r (held_in w)

pub back_pushes : Pushes push_back_of push_back
back_pushes = record { good = λ r w g. push-back_good w r g; adds = λ r w z. push-back-held w r z }

pub front_pushes : Pushes push_front_of push_front
front_pushes = record { good = λ r w g. push_front_good w r g; adds = λ r w z. push_front-held w r z }

module _ (push : ℕ → Windows → Windows) (add : ℕ → List ℕ → List ℕ) (p : Pushes push add) (w : Windows) where
  pub rate_good : (o : Option ℕ) (stale : Bool) → Good w → Good (push_rate push o stale w)
  unfolding push_rate
  rate_good none stale g = g
  rate_good (some r) true g = g
  rate_good (some r) false g = p.good r w g

  pub rate-held : (o : Option ℕ) (stale : Bool) → Good w → (stale ≡ false → w.state.count < w.state.capacity) → held_in (push_rate push o stale w) ≡ push_maybe add o stale (held_in w)
  unfolding push_rate
  rate-held none stale g l = refl
  rate-held (some r) true g l = refl
  rate-held (some r) false g l = p.adds r w (accepts w.state _ _ _ g.valid (l refl))

-- ---- there is room, since unless stale the hurdles are rates of held rows

pub hurdles-few : (es : List (Entry HistoricalFeeBlock)) → length (hurdles_of es) ≤ length es
unfolding hurdles_of
hurdles-few [] = omega arith
hurdles-few (e ∷ es) = go (hurdle_of e.value) (hurdles-few es)
  where
    go : (o : Option ℕ) → length (hurdles_of es) ≤ length es → length (cons_maybe o (hurdles_of es)) ≤ length (e ∷ es)
    go none l = omega arith
    go (some r) l = omega arith

module _ (s : FeeHistory) (m : Lent) (x : Sound s m) where
  pub sound_good : Good (windows_of s m)
  sound_good = stored_good (windows_of s m) (serves s m x.lent).windows x.stored

  pub windows-room : s.count < s.analog.capacity → s.analog_stale ≡ false → s.analog.count < s.analog.capacity
  unfolding held_rows
  windows-room l st =
      let v = (serves s m x.lent).windows in
      let a : length (held_in (windows_of s m)) ≡ s.analog.count = length-held s.analog m.hurdles (omega (arith, v.within, v.hurdles_fit)) in
      let b : length (held_in (windows_of s m)) ≡ length (hurdles_of (held_rows m.rows s)) = ap length (x.hurdles st) in
      let c = hurdles-few (held_rows m.rows s) in
      let d : length (held_rows m.rows s) ≡ s.count = tabulate-length (row_at m.rows) s.start s.count in
      omega arith

-- ---- the hurdles of rows with one more

pub hurdles-with : (los his : List (Entry HistoricalFeeBlock)) (h : ℕ) (b : HistoricalFeeBlock) → hurdles_of (los ++ entry h b ∷ his) ≡ hurdles_of los ++ cons_maybe (hurdle_of b) (hurdles_of his)
unfolding hurdles_of
hurdles-with los his h b = hurdles_append los (entry h b ∷ his)

-- behind, and before
pub maybe-behind : (o : Option ℕ) (hs : List ℕ) → push_maybe push_back o false hs ≡ hs ++ cons_maybe o []
maybe-behind none hs = sym (append-nil hs)
maybe-behind (some r) hs = refl

pub maybe-before : (o : Option ℕ) (hs : List ℕ) → push_maybe push_front o false hs ≡ cons_maybe o hs
maybe-before none hs = refl
maybe-before (some r) hs = refl
