-- `insert`: what it does to a sound state's view is what the Rust does, and the state is sound again. Assumes nothing.
use Prim.Native.Nat.{ℕ, ◌+◌, ◌-◌, ◌^◌, ◌<◌}
use mathlib.Core.Path.{◌≡◌, refl, sym, ◌∙◌, ap, subst}
use mathlib.Core.Logic.{⊎_elim}
use mathlib.Core.Bool.{Bool, true, false, cond, ◌&&◌}
use mathlib.Core.List.{List, [], ◌∷◌, ◌++◌}
use mathlib.Core.Option.{Option}
use native.Mathlib.Omega.{arith}
use lib.Dec.{eqb}
use lib.Ieee.{Float}
use lib.ListN.{get_or}
use borrow.Author.Tests.{le-ltb, eq-eqb, ne_eqb, eqb-false}
use Rattle.slices.specs.Lists.{tabulate}
use Rattle.rbitcoin_mempool.specs.Pairs.{push_back}
use Rattle.rbitcoin_mempool.specs.Outcome.{Verdict, done, refused, verdict_of}
use Rattle.rbitcoin_mempool.specs.Windows.{Windows, held_in, push_back_of}
use Rattle.rbitcoin_mempool.proofs.Refusals.{refusing, zero_or_not}
use Rattle.rbitcoin_mempool.proofs.Views.{push-back-set-up}
use Rattle.rbitcoin_net.specs.declared.fee_history.HistoricalFeeBlock.{HistoricalFeeBlock}
use Rattle.rbitcoin_net.specs.declared.fee_history.FeeHistory.{FeeHistory}
use Rattle.rbitcoin_net.specs.Map.{entry}
use Rattle.rbitcoin_net.specs.History.{History, set_hurdles, set_stale, hurdle_of, hold, note_hash, evict, cons_maybe, hurdles_of, push_maybe, insert_of}
use Rattle.rbitcoin_net.specs.Lent.{Rows, Hashes, Lent, lent, row_at, held_rows, windows_of, view, lent_refusal, Sound}
use Rattle.rbitcoin_net.specs.Search.{place_of, is_at, is_held}
use Rattle.rbitcoin_net.specs.Hashes.{Whole32}
use Rattle.rbitcoin_net.specs.Cuts.{cut_at, drop_from}
use Rattle.rbitcoin_net.specs.Inserts.{Whole, whole, push_rate, insert_refusal, insert_in, Inserts}
use Rattle.rbitcoin_net.proofs.Tables.{Parts, either}
use Rattle.rbitcoin_net.proofs.Search.{place_parts}
use Rattle.rbitcoin_net.proofs.Refusals.{both_zero, serves}
use Rattle.rbitcoin_net.proofs.Full.{connect-full}
use Rattle.rbitcoin_net.proofs.MapLaws.{cleared, connect_clears}
use Rattle.rbitcoin_net.proofs.CutViews.{cut-view}
use Rattle.rbitcoin_net.proofs.CutSound.{cut-sound}
use Rattle.rbitcoin_net.proofs.Stores.{with_row, Fitting, store-sound, store-means}
use Rattle.rbitcoin_net.proofs.SetUps.{drop-set-up, rate-set-up}
use Rattle.rbitcoin_net.proofs.Pushed.{back_pushes, rate_good, rate-held, sound_good, windows-room, hurdles-with, maybe-behind}

-- the newest row's rate goes behind the hurdles
pub behind-hurdles : (h : ℕ) (b : HistoricalFeeBlock) (m : Rows) (s : FeeHistory) (stale : Bool) (hs : List ℕ) → stale ≡ false → hs ≡ hurdles_of (held_rows m s) → push_maybe push_back (hurdle_of b) stale hs ≡ hurdles_of (with_row s.count h b m s)
unfolding held_rows hurdles_of tabulate
behind-hurdles h b m s stale hs st e =
    let n : s.count - s.count ≡ 0 = omega arith in
    let rows = tabulate (row_at m) s.start s.count in
    ap (λ (t : Bool). push_maybe push_back (hurdle_of b) t hs) st
    ∙ maybe-behind (hurdle_of b) hs
    ∙ ap (λ (l : List ℕ). l ++ cons_maybe (hurdle_of b) []) e
    ∙ sym (hurdles-with rows [] h b)
    ∙ ap (λ k. hurdles_of (rows ++ entry h b ∷ tabulate (row_at m) (s.start + s.count) k)) (sym n)

-- what is not refused leaves room
pub unfilled : (b : Bool) → ◌≡◌ {A = ℕ} (cond b 4 0) 0 → b ≡ false
unfilled true e = absurd (let f : ⊥ = omega arith in f)
unfilled false e = refl

module _ (h : ℕ) (b : HistoricalFeeBlock) (hash : Option (List ℕ)) (small : h < 2 ^ 32) (len : Whole32 hash) (m : Rows) (z : Hashes) (us : List ℕ) (bs : List Float) (ds : List ℕ) (s : FeeHistory) (x : Sound s (lent m z us bs ds)) (taken : insert_refusal h s (lent m z us bs ds) ≡ 0) where
  abbrev memory : Lent
  memory = lent m z us bs ds

  abbrev left : FeeHistory
  left = drop_from h m z s

  abbrev pushed : Windows
  pushed = push_rate push_back_of (hurdle_of b) left.analog_stale (windows_of left memory)

  left-sound : Sound left memory
  left-sound = cut-sound m z us bs ds h s x

  left-start : left.start ≡ s.start
  unfolding drop_from cut_at
  left-start = refl

  left-count : left.count ≡ place_of m.heights s h - s.start
  unfolding drop_from cut_at
  left-count = refl

  left_capacity : left.analog.capacity ≡ s.analog.capacity
  left_capacity = (drop-set-up h m z s).same_windows.same_capacity

  parts : Parts (λ i. (row_at m i).key) h s.start (s.start + s.count) (place_of m.heights s h)
  parts = place_parts m s h x.ascends

  -- below the height stands all that is left
  place-left : place_of m.heights left h ≡ left.start + left.count
  place-left =
      let p = parts in
      let q = place_parts m left h left-sound.ascends in
      let a = left-start in
      let c = left-count in
      let l = p.low in
      let u = q.low in
      let v = q.high in
      either (place_of m.heights left h) (left.start + left.count)
      (λ o. absurd (let f : ⊥ = omega (arith, q.behind (place_of m.heights left h) (omega arith) o, p.before (place_of m.heights left h) (omega arith) (omega arith)) in f))
      (λ o. omega arith)

  rank : left.count ≡ place_of m.heights left h - left.start
  rank = let e = place-left in omega arith

  absent : is_held m.heights left h ≡ false
  unfolding is_at
  absent = let e = place-left in ap (λ t. t && eqb (get_or m.heights (place_of m.heights left h) 0) h) (le-ltb (place_of m.heights left h) (left.start + left.count) (omega arith))

  room : left.count < left.analog.capacity
  unfolding insert_refusal
  room =
      let below = place_of m.heights s h - s.start in
      let n = eqb-false below s.analog.capacity (unfilled (eqb below s.analog.capacity) (both_zero (lent_refusal s memory) (cond (eqb below s.analog.capacity) 4 0) taken).1) in
      let v = serves s memory x.lent in
      let p = parts in
      let c = left-count in
      let d = left_capacity in
      let k = v.rows-within in
      let u = p.high in
      either left.count left.analog.capacity (λ l. l) (λ l. absurd (n (omega arith)))

  fitting : Fitting left.count h b m left pushed left.analog_stale
  fitting =
      let w = windows_of left memory in
      let g = sound_good left memory left-sound in
      record {
        good = rate_good push_back_of push_back back_pushes w (hurdle_of b) left.analog_stale g;
        set-up = rate-set-up push_back_of push-back-set-up (hurdle_of b) left.analog_stale w;
        hurdles = λ st. rate-held push_back_of push_back back_pushes w (hurdle_of b) left.analog_stale g (windows-room left memory left-sound room) ∙ behind-hurdles h b m left left.analog_stale (held_in w) st (left-sound.hurdles st);
      }

  abbrev result : Whole
  result = insert_in h b hash (whole s memory)

  pub insert-sound : Sound result.state result.memory
  unfolding insert_in
  insert-sound = store-sound left.count h b hash len m z us bs ds left left-sound room rank absent pushed left.analog_stale fitting

  -- the lines from `blocks.insert` on
  abbrev connected : History → History
  connected v = evict (note_hash h hash (hold h b (set_stale v.stale (set_hurdles (push_maybe push_back (hurdle_of b) v.stale v.hurdles) v))))

  connect-view : view result.state result.memory ≡ connected (view left memory)
  unfolding insert_in view
  connect-view =
      store-means left.count h b hash len m z us bs ds left left-sound room rank absent pushed left.analog_stale fitting
      ∙ ap (λ (hs : List ℕ). evict (note_hash h hash (hold h b (set_stale left.analog_stale (set_hurdles hs (view left memory))))))
      (rate-held push_back_of push_back back_pushes (windows_of left memory) (hurdle_of b) left.analog_stale (sound_good left memory left-sound) (windows-room left memory left-sound room))

  left-view : view left memory ≡ cleared h (view s memory)
  unfolding view
  left-view = cut-view m z us bs ds h s (sound_good s memory x) x.ascends x.hashes_ascend ∙ sym (connect_clears h small (view s memory) x.ascends)

  pub insert-means : view result.state result.memory ≡ insert_of h b hash (view s memory)
  unfolding insert_of hold
  insert-means = connect-view ∙ ap connected left-view

-- ---- the contract

module _ (h : ℕ) (b : HistoricalFeeBlock) (hash : Option (List ℕ)) (small : h < 2 ^ 32) (len : Whole32 hash) (x : Whole) where
  abbrev refusal : ℕ
  refusal = insert_refusal h x.state x.memory

  module _ (v : Verdict) (y : Whole) (o : v ≡ verdict_of refusal) (e : y ≡ cond (eqb refusal 0) (insert_in h b hash x) x) where
    done_so : refusal ≡ 0 → y ≡ insert_in h b hash x
    done_so t = e ∙ ap (λ c. cond c (insert_in h b hash x) x) (eq-eqb refusal 0 t)

    kept_so : (refusal ≡ 0 → ⊥) → y ≡ x
    kept_so t = e ∙ ap (λ c. cond c (insert_in h b hash x) x) (ne_eqb refusal 0 t)

    inserts : Inserts h b hash x v y
    inserts =
        let m = x.memory in
        let s = x.state in
        record {
          outcome = o;
          is = e;
          full = λ k. connect-full h s m k;
          means = λ k t. ap (λ (u : Whole). view u.state u.memory) (done_so t) ∙ insert-means h b hash small len m.rows m.hashes m.hurdles m.befores m.aheads s k t;
          sound = λ k. ⊎_elim (λ t. subst (λ (u : Whole). Sound u.state u.memory) (sym (done_so t)) (insert-sound h b hash small len m.rows m.hashes m.hurdles m.befores m.aheads s k t)) (λ t. subst (λ (u : Whole). Sound u.state u.memory) (sym (kept_so t)) k) (zero_or_not refusal);
        }

  pub insert-refused : (k : ℕ) → k ≡ refusal → (k ≡ 0 → ⊥) → Inserts h b hash x (refused k) x
  insert-refused k e n =
      let d : refusal ≡ 0 → ⊥ = λ y. n (e ∙ y) in
      inserts (refused k) x (ap refused e ∙ refusing refusal d) (ap (λ c. cond c (insert_in h b hash x) x) (sym (ne_eqb refusal 0 d)))

  pub insert-done : (y : Whole) → refusal ≡ 0 → y ≡ insert_in h b hash x → Inserts h b hash x done y
  unfolding verdict_of
  insert-done y r d = inserts done y (ap verdict_of (sym r)) (d ∙ ap (λ c. cond c (insert_in h b hash x) x) (sym (eq-eqb refusal 0 r)))
