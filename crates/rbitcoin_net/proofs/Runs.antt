-- Over any run of calls from an accepted opening the state stays sound, and while the true sum fits, the kept byte total is that sum. Assumes nothing.
use Prim.Native.Nat.{ℕ, ◌^◌, ◌<◌}
use mathlib.Core.Path.{◌≡◌, refl, sym, subst}
use mathlib.Core.Bool.{Bool, true, false, cond}
use mathlib.Core.List.{List, [], ◌∷◌}
use mathlib.Core.Option.{Option}
use lib.Dec.{eqb}
use borrow.Author.Tests.{eqb-true}
use Rattle.rbitcoin_mempool.specs.Windows.{fresh as fresh_windows}
use Rattle.rbitcoin_net.specs.declared.fee_history.HistoricalFeeBlock.{HistoricalFeeBlock}
use Rattle.rbitcoin_net.specs.declared.fee_history.FeeHistory.{FeeHistory}
use Rattle.rbitcoin_net.specs.Map.{below, contains_key, insert}
use Rattle.rbitcoin_net.specs.Lent.{Lent, held_rows, view, Sound}
use Rattle.rbitcoin_net.specs.Hashes.{Whole32}
use Rattle.rbitcoin_net.specs.Cuts.{truncate_in, truncate_refusal_of}
use Rattle.rbitcoin_net.specs.Inserts.{Whole, whole, insert_refusal, insert_in, insert_if_absent_refusal, insert_if_absent_in}
use Rattle.rbitcoin_net.specs.Openings.{fresh_of, open_refusal}
use Rattle.rbitcoin_net.specs.Sums.{sum_of, Exact}
use Rattle.rbitcoin_net.specs.Runs.{Call, connect, preload, cut, ask, other, rated_of, whole_of, call_in, run_in, InRange32, AllInRange32, moment, SumsFit}
use Rattle.rbitcoin_net.proofs.CutSound.{cut-sound, cut-means}
use Rattle.rbitcoin_net.proofs.Connects.{insert-sound, insert-means}
use Rattle.rbitcoin_net.proofs.Preloads.{both}
use Rattle.rbitcoin_net.proofs.Rates.{rates-means, rates-sound}
use Rattle.rbitcoin_net.proofs.Refusals.{rates-fit}
use Rattle.rbitcoin_net.specs.Rates.{rates_refusal_of, rates_in}
use Rattle.rbitcoin_net.proofs.Openings.{open-view, open-sound}
use Rattle.rbitcoin_net.proofs.Sums.{truncate-exact, insert-exact, preload-exact, rates-exact, new-exact}
use Rattle.rbitcoin_net.specs.History.{next}

-- a state with its memory is sound, and its kept total is the true sum
abbrev SoundAt : Whole → Type 0
SoundAt x = Sound x.state x.memory

abbrev ExactAt : Whole → Type 0
ExactAt x = Exact (view x.state x.memory)

-- what a call keeps: soundness; and while the sum fits, the exact total
pub record Keeps (x : Whole) (n : ℕ) (y : Whole) : Type 0 where
  pub sound : SoundAt y
  pub exact : n < 2 ^ 64 → ExactAt x → ExactAt y

unchanged : (x : Whole) (n : ℕ) → SoundAt x → Keeps x n x
unchanged x n k = record { sound = k; exact = λ l e. e }

-- a sum that is asked for only where nothing of the key is held
asked : (c : Bool) (n : ℕ) → cond c 0 n < 2 ^ 64 → c ≡ false → n < 2 ^ 64
asked c n l e = subst (λ (b : Bool). cond b 0 n < 2 ^ 64) e l

module _ (x : Whole) (k : SoundAt x) where
  abbrev m : Lent
  m = x.memory

  abbrev s : FeeHistory
  s = x.state

  connect-keeps : (h : ℕ) (b : HistoricalFeeBlock) (z : Option (List ℕ)) → h < 2 ^ 32 → Whole32 z → insert_refusal h s m ≡ 0 → Keeps x (sum_of (insert h b (below h (view s m).blocks))) (insert_in h b z x)
  unfolding view
  connect-keeps h b z small len t =
      let v = insert-means h b z small len m.rows m.hashes m.hurdles m.befores m.aheads s k t in
      record {
        sound = insert-sound h b z small len m.rows m.hashes m.hurdles m.befores m.aheads s k t;
        exact = λ l e. subst Exact (sym v) (insert-exact h b z (view s m) small k.ascends l e);
      }

  preload-keeps : (h : ℕ) (b : HistoricalFeeBlock) (z : Option (List ℕ)) → Whole32 z → insert_if_absent_refusal h s m ≡ 0 → Keeps x (cond (contains_key h (view s m).blocks) 0 (sum_of (insert h b (view s m).blocks))) (insert_if_absent_in h b z x)
  preload-keeps h b z len t =
      let v = both h b z len x k t in
      record {
        sound = v.1;
        exact = λ l e. subst Exact (sym v.0) (preload-exact h b z (view s m) (asked (contains_key h (view s m).blocks) (sum_of (insert h b (view s m).blocks)) l) e);
      }

  cut_keeps : (h : ℕ) → Keeps x 0 (whole (truncate_in h m.rows m.hashes s) m)
  cut_keeps h =
      let v = cut-means m.rows m.hashes m.hurdles m.befores m.aheads h s k in
      record {
        sound = cut-sound m.rows m.hashes m.hurdles m.befores m.aheads (next h) s k;
        exact = λ l e. subst Exact (sym v) (truncate-exact h (view s m) e);
      }

  ask-keeps : (z n o : ℕ) → rates_refusal_of m.rows (rated_of x) z n o ≡ 0 → Keeps x 0 (whole_of m (rates_in z m.rows (rated_of x)))
  ask-keeps z n o t =
      let f = (rates-fit s _ _ _ _ _ _ _ _ _ _ t).scratch in
      record {
        sound = rates-sound m.rows m.hashes (rated_of x) k z;
        exact = λ l e. subst Exact (sym (rates-means m.rows m.hashes (rated_of x) k z f)) (rates-exact (view s m) e);
      }

  call-keeps : (c : Call) → InRange32 c → Keeps x (moment c x) (call_in c x)
  unfolding call_in moment
  call-keeps (connect h b z) g = go (eqb (insert_refusal h s m) 0) refl
    where
      go : (a : Bool) → eqb (insert_refusal h s m) 0 ≡ a → Keeps x (cond a (sum_of (insert h b (below h (view s m).blocks))) 0) (cond a (insert_in h b z x) x)
      go true e = connect-keeps h b z g.0 g.1 (eqb-true (insert_refusal h s m) 0 e)
      go false e = unchanged x 0 k
  call-keeps (preload h b z) g = go (eqb (insert_if_absent_refusal h s m) 0) refl
    where
      go : (a : Bool) → eqb (insert_if_absent_refusal h s m) 0 ≡ a → Keeps x (cond a (cond (contains_key h (view s m).blocks) 0 (sum_of (insert h b (view s m).blocks))) 0) (cond a (insert_if_absent_in h b z x) x)
      go true e = preload-keeps h b z g.1 (eqb-true (insert_if_absent_refusal h s m) 0 e)
      go false e = unchanged x 0 k
  call-keeps (cut h) g = go (eqb (truncate_refusal_of s m.rows m.hashes) 0)
    where
      go : (a : Bool) → Keeps x 0 (cond a (whole (truncate_in h m.rows m.hashes s) m) x)
      go true = cut_keeps h
      go false = unchanged x 0 k
  call-keeps (ask z n o) g = go (eqb (rates_refusal_of m.rows (rated_of x) z n o) 0) refl
    where
      go : (a : Bool) → eqb (rates_refusal_of m.rows (rated_of x) z n o) 0 ≡ a → Keeps x 0 (cond a (whole_of m (rates_in z m.rows (rated_of x))) x)
      go true e = ask-keeps z n o (eqb-true (rates_refusal_of m.rows (rated_of x) z n o) 0 e)
      go false e = unchanged x 0 k
  call-keeps other g = unchanged x 0 k

pub run_sound : (cs : List Call) (x : Whole) → SoundAt x → AllInRange32 cs → SoundAt (run_in cs x)
unfolding run_in
run_sound [] x k g = k
run_sound (c ∷ cs) x k g = run_sound cs (call_in c x) (call-keeps x k c g.0).sound g.1

pub run-exact : (cs : List Call) (x : Whole) → SoundAt x → AllInRange32 cs → SumsFit cs x → ExactAt x → ExactAt (run_in cs x)
unfolding run_in
run-exact [] x k g f e = e
run-exact (c ∷ cs) x k g f e =
    let y = call-keeps x k c g.0 in
    run-exact cs (call_in c x) y.sound g.1 f.1 (y.exact f.0 e)

-- from an opening the kept total is the sum over the held blocks, whatever calls were made, refused ones among them, while the true sum fitted
module _ (budget : ℕ) (targets : List ℕ) (c : ℕ) (m : Lent) (z : open_refusal targets c m ≡ 0) where
  abbrev opening : Whole
  opening = whole (fresh_of budget (fresh_windows targets c)) m

  pub total-true : (cs : List Call) → AllInRange32 cs → SumsFit cs opening → (run_in cs opening).state.txstat_bytes ≡ sum_of (held_rows (run_in cs opening).memory.rows (run_in cs opening).state)
  unfolding view
  total-true cs g f = run-exact cs opening (open-sound budget targets c m z) g f (subst Exact (sym (open-view budget targets c m z)) (new-exact budget targets))
