-- `insert_if_absent`: what it does to a sound state's view is what the Rust does, and the state is sound again. Assumes nothing.
use Prim.Native.Nat.{ℕ, zero, suc, ◌+◌, ◌-◌, ◌≤◌, ◌<◌}
use mathlib.Core.Path.{◌≡◌, refl, sym, ◌∙◌, ap, subst}
use mathlib.Core.Logic.{⊎_elim}
use mathlib.Core.Bool.{Bool, true, false, cond}
use mathlib.Core.List.{List, ◌++◌}
use mathlib.Core.Option.{Option, none, some}
use native.Mathlib.Omega.{arith}
use lib.Dec.{ltb, eqb}
use lib.Ieee.{Float}
use borrow.Author.Tests.{lt-ltb, le-ltb, eq-eqb, ne_eqb, eqb-true, eqb-false}
use Rattle.slices.specs.Lists.{tabulate}
use Rattle.rbitcoin_mempool.specs.Pairs.{push_back, push_front}
use Rattle.rbitcoin_mempool.specs.Outcome.{Verdict, done, refused, verdict_of}
use Rattle.rbitcoin_mempool.specs.Windows.{Windows, held_in, push_back_of, push_front_of}
use Rattle.rbitcoin_mempool.proofs.Kept.{Good}
use Rattle.rbitcoin_mempool.proofs.Refusals.{refusing, zero_or_not}
use Rattle.rbitcoin_net.specs.declared.fee_history.HistoricalFeeBlock.{HistoricalFeeBlock}
use Rattle.rbitcoin_net.specs.declared.fee_history.FeeHistory.{FeeHistory}
use Rattle.rbitcoin_net.specs.Map.{Entry, Ascends, is_some, first_key, last_key}
use Rattle.rbitcoin_net.specs.History.{History, set_hurdles, set_stale, set_rates, hurdle_of, hold, note_hash, evict, cons_maybe, hurdles_of, push_maybe, preload_hurdle, preload_rate, insert_if_absent_of}
use Rattle.rbitcoin_net.specs.Lent.{Rows, Hashes, Lent, lent, row_at, held_rows, kept_rates, windows_of, view, lent_refusal, Sound}
use Rattle.rbitcoin_net.specs.Search.{place_of, is_at, is_held}
use Rattle.rbitcoin_net.specs.Hashes.{Whole32}
use Rattle.rbitcoin_net.specs.Cuts.{unkept}
use Rattle.rbitcoin_net.specs.Inserts.{Whole, whole, push_rate, insert_if_absent_refusal, preload_windows, preload_stale, store_with, insert_if_absent_in, InsertsIfAbsent}
use Rattle.rbitcoin_net.proofs.Tables.{Parts, either, table-split}
use Rattle.rbitcoin_net.proofs.Search.{place_parts, is-at-false, contains-is}
use Rattle.rbitcoin_net.proofs.Refusals.{both_zero, serves}
use Rattle.rbitcoin_net.proofs.Full.{preload-full}
use Rattle.rbitcoin_net.proofs.CutSound.{hurdles_append}
use Rattle.rbitcoin_net.proofs.EvictSound.{unkept-sound}
use Rattle.rbitcoin_net.proofs.Stores.{with_row, Fitting, store-sound, store-means}
use Rattle.rbitcoin_net.proofs.Connects.{behind-hurdles, unfilled}
use Rattle.rbitcoin_net.proofs.SetUps.{preload-windows-set-up}
use Rattle.rbitcoin_net.proofs.Pushed.{back_pushes, front_pushes, rate_good, rate-held, sound_good, windows-room, hurdles-with, maybe-before}

-- ---- the last height of a table

pub last_of : {A : Type 0} (f : ℕ → Entry A) (k a : ℕ) → last_key (tabulate f a (suc k)) ≡ some (f (a + k)).key
unfolding tabulate last_key
last_of f zero a = let e : a + 0 ≡ a = omega arith in rw e
last_of f (suc k) a = let e : a + suc k ≡ suc a + k = omega arith in rw e (last_of f k (suc a))

-- ---- which end, or the middle, by the rank

module _ (f : ℕ → Entry HistoricalFeeBlock) (h a n p : ℕ) (parts : Parts (λ i. (f i).key) h a (a + n) p) (absent : p < a + n → (f p).key ≡ h → ⊥) (r : ℕ) (y : History) where
  abbrev by_rank : Bool → Bool → History
  by_rank b c = cond b (set_hurdles (push_back r y.hurdles) y) (cond c (set_hurdles (push_front r y.hurdles) y) (set_stale true y))

  abbrev ends : ℕ → ℕ → History
  ends l i = cond (ltb l h) (set_hurdles (push_back r y.hurdles) y) (cond (ltb h i) (set_hurdles (push_front r y.hurdles) y) (set_stale true y))

  end_is : (k : ℕ) → n ≡ suc k → ends (f (a + k)).key (f a).key ≡ by_rank (eqb (p - a) n) (eqb (p - a) 0)
  end_is k e =
      let lo = parts.low in
      let hi = parts.high in
      either p (a + n)
      (λ l.
      let t : h ≤ (f (a + k)).key = parts.behind (a + k) (omega arith) (omega arith) in
      rw (le-ltb (f (a + k)).key h t, ne_eqb (p - a) n (λ u. omega arith))
      (either a p
      (λ o.
      let v : (f a).key < h = parts.before a (omega arith) o in
      rw (le-ltb h (f a).key (omega arith), ne_eqb (p - a) 0 (λ u. omega arith)))
      (λ o.
      let q : p ≡ a = omega arith in
      let v : h ≤ (f p).key = parts.behind p (omega arith) l in
      let w : h < (f p).key = either h (f p).key (λ j. j) (λ j. absurd (absent l (omega arith))) in
      let x : h < (f a).key = rw q at w in
      rw (lt-ltb h (f a).key x, eq-eqb (p - a) 0 (omega arith)))))
      (λ l.
      let t : (f (a + k)).key < h = parts.before (a + k) (omega arith) (omega arith) in
      rw (lt-ltb (f (a + k)).key h t, eq-eqb (p - a) n (omega arith)))

  pub hurdle-by-rank : preload_hurdle h r (first_key (tabulate f a n)) (last_key (tabulate f a n)) y ≡ by_rank (eqb (p - a) n) (eqb (p - a) 0)
  unfolding tabulate last_key
  hurdle-by-rank = go n refl
    where
      go : (m : ℕ) → n ≡ m → preload_hurdle h r (first_key (tabulate f a m)) (last_key (tabulate f a m)) y ≡ by_rank (eqb (p - a) n) (eqb (p - a) 0)
      go zero e = let hi = parts.high in rw (eq-eqb (p - a) n (omega arith))
      go (suc k) e = ap (λ (o : Option ℕ). preload_hurdle h r (some (f a).key) o y) (last_of f k a) ∙ end_is k e

-- ---- the windows and the stale mark, by the rank

module _ (w : Windows) (y : History) (held-so : held_in w ≡ y.hurdles) (good : Good w) (room : y.stale ≡ false → w.state.count < w.state.capacity) (q n : ℕ) where
  abbrev changed : Option ℕ → Bool → History
  changed o st = set_stale (preload_stale q n o st) (set_hurdles (held_in (preload_windows q n o st w)) y)

  as_was : (st : Bool) → y.stale ≡ st → set_stale st (set_hurdles (held_in w) y) ≡ y
  as_was st e = λ i. set_stale (sym e i) (set_hurdles (held-so i) y)

  no-rate : (st : Bool) → y.stale ≡ st → changed none st ≡ y
  unfolding preload_stale preload_windows push_rate
  no-rate st e = go (eqb q n) (eqb q 0)
    where
      go : (a b : Bool) → set_stale (cond a st (cond b st st)) (set_hurdles (held_in (cond a w (cond b w w))) y) ≡ y
      go true b = as_was st e
      go false true = as_was st e
      go false false = as_was st e

  stale-rate : (r : ℕ) → y.stale ≡ true → changed (some r) true ≡ y
  unfolding preload_stale preload_windows push_rate
  stale-rate r e = go (eqb q n) (eqb q 0)
    where
      go : (a b : Bool) → set_stale (cond a true (cond b true true)) (set_hurdles (held_in (cond a w (cond b w w))) y) ≡ y
      go true b = as_was true e
      go false true = as_was true e
      go false false = as_was true e

  fresh-rate : (r : ℕ) → y.stale ≡ false → changed (some r) false ≡ cond (eqb q n) (set_hurdles (push_back r y.hurdles) y) (cond (eqb q 0) (set_hurdles (push_front r y.hurdles) y) (set_stale true y))
  unfolding preload_stale preload_windows
  fresh-rate r e = go (eqb q n) (eqb q 0)
    where
      behind : held_in (push_rate push_back_of (some r) false w) ≡ push_back r y.hurdles
      behind = rate-held push_back_of push_back back_pushes w (some r) false good (λ u. room e) ∙ ap (push_back r) held-so

      before : held_in (push_rate push_front_of (some r) false w) ≡ push_front r y.hurdles
      before = rate-held push_front_of push_front front_pushes w (some r) false good (λ u. room e) ∙ ap (push_front r) held-so

      go : (a b : Bool) → set_stale (cond a false (cond b false true)) (set_hurdles (held_in (cond a (push_rate push_back_of (some r) false w) (cond b (push_rate push_front_of (some r) false w) w))) y)
          ≡ cond a (set_hurdles (push_back r y.hurdles) y) (cond b (set_hurdles (push_front r y.hurdles) y) (set_stale true y))
      go true b = λ i. set_stale (sym e i) (set_hurdles (behind i) y)
      go false true = λ i. set_stale (sym e i) (set_hurdles (before i) y)
      go false false = λ i. set_stale true (set_hurdles (held-so i) y)

-- ---- the windows fit the rows with the new one

module _ (h : ℕ) (b : HistoricalFeeBlock) (m : Rows) (z : Hashes) (us : List ℕ) (bs : List Float) (ds : List ℕ) (s : FeeHistory) (x : Sound s (lent m z us bs ds)) (room : s.count < s.analog.capacity) (q : ℕ) (rank : q ≤ s.count) where
  abbrev memory : Lent
  memory = lent m z us bs ds

  abbrev w : Windows
  w = windows_of s memory

  abbrev o : Option ℕ
  o = hurdle_of b

  abbrev st : Bool
  st = s.analog_stale

  good : Good w
  good = sound_good s memory x

  changed_good : Good (preload_windows q s.count o st w)
  unfolding preload_windows
  changed_good = go (eqb q s.count) (eqb q 0)
    where
      go : (a c : Bool) → Good (cond a (push_rate push_back_of o st w) (cond c (push_rate push_front_of o st w) w))
      go true c = rate_good push_back_of push_back back_pushes w o st good
      go false true = rate_good push_front_of push_front front_pushes w o st good
      go false false = good

  behind : q ≡ s.count → st ≡ false → held_in (push_rate push_back_of o st w) ≡ hurdles_of (with_row q h b m s)
  behind e u =
      rate-held push_back_of push_back back_pushes w o st good (windows-room s memory x room)
      ∙ behind-hurdles h b m s st (held_in w) u (x.hurdles u)
      ∙ ap (λ k. hurdles_of (with_row k h b m s)) (sym e)

  before : q ≡ 0 → st ≡ false → held_in (push_rate push_front_of o st w) ≡ hurdles_of (with_row q h b m s)
  unfolding held_rows tabulate hurdles_of
  before e u =
      let c : s.start + 0 ≡ s.start = omega arith in
      let d : s.count - 0 ≡ s.count = omega arith in
      rate-held push_front_of push_front front_pushes w o st good (windows-room s memory x room)
      ∙ ap (λ (t : Bool). push_maybe push_front o t (held_in w)) u
      ∙ maybe-before o (held_in w)
      ∙ ap (cons_maybe o) (x.hurdles u)
      ∙ sym (λ i. cons_maybe o (hurdles_of (tabulate (row_at m) (c i) (d i))))
      ∙ ap (λ k. hurdles_of (with_row k h b m s)) (sym e)

  between : cond (is_some o) true st ≡ false → held_in w ≡ hurdles_of (with_row q h b m s)
  unfolding held_rows
  between = go o refl
    where
      go : (p : Option ℕ) → o ≡ p → cond (is_some p) true st ≡ false → held_in w ≡ hurdles_of (with_row q h b m s)
      go none e u =
          let k : s.start + s.count - (s.start + q) ≡ s.count - q = omega arith in
          let j : s.start + q - s.start ≡ q = omega arith in
          let los = tabulate (row_at m) s.start q in
          let his = tabulate (row_at m) (s.start + q) (s.count - q) in
          x.hurdles u
          ∙ ap hurdles_of (table-split (row_at m) s.start s.count (s.start + q) (omega arith) (omega arith) ∙ (λ i. tabulate (row_at m) s.start (j i) ++ tabulate (row_at m) (s.start + q) (k i)))
          ∙ hurdles_append los his
          ∙ sym (hurdles-with los his h b ∙ ap (λ (v : Option ℕ). hurdles_of los ++ cons_maybe v (hurdles_of his)) e)
      go (some r) e u = absurd (let d : ◌≡◌ {A = ℕ} 1 0 = ap (λ (t : Bool). cond t 1 0) u in let f : ⊥ = omega arith in f)

  changed-hurdles : preload_stale q s.count o st ≡ false → held_in (preload_windows q s.count o st w) ≡ hurdles_of (with_row q h b m s)
  unfolding preload_windows preload_stale
  changed-hurdles = go (eqb q s.count) refl (eqb q 0) refl
    where
      go : (a : Bool) → eqb q s.count ≡ a → (c : Bool) → eqb q 0 ≡ c → cond a st (cond c st (cond (is_some o) true st)) ≡ false → held_in (cond a (push_rate push_back_of o st w) (cond c (push_rate push_front_of o st w) w)) ≡ hurdles_of (with_row q h b m s)
      go true e c d u = behind (eqb-true q s.count e) u
      go false e true d u = before (eqb-true q 0 d) u
      go false e false d u = between u

  pub preload-fitting : Fitting q h b m (unkept s) (preload_windows q s.count o st w) (preload_stale q s.count o st)
  preload-fitting =
      record { good = changed_good; set-up = preload-windows-set-up q s.count o st w; hurdles = changed-hurdles }

-- ---- a preload of an absent height

module _ (h : ℕ) (b : HistoricalFeeBlock) (hash : Option (List ℕ)) (len : Whole32 hash) (m : Rows) (z : Hashes) (us : List ℕ) (bs : List Float) (ds : List ℕ) (s : FeeHistory) (x : Sound s (lent m z us bs ds)) (taken : insert_if_absent_refusal h s (lent m z us bs ds) ≡ 0) (absent : is_held m.heights s h ≡ false) where
  abbrev lists : Lent
  lists = lent m z us bs ds

  abbrev rank : ℕ
  rank = place_of m.heights s h - s.start

  abbrev after : Windows
  after = preload_windows rank s.count (hurdle_of b) s.analog_stale (windows_of s lists)

  abbrev mark : Bool
  mark = preload_stale rank s.count (hurdle_of b) s.analog_stale

  parts : Parts (λ i. (row_at m i).key) h s.start (s.start + s.count) (place_of m.heights s h)
  parts = place_parts m s h x.ascends

  rank-fits : rank ≤ s.count
  rank-fits = let p = parts in omega (arith, p.low, p.high)

  room : s.count < s.analog.capacity
  unfolding insert_if_absent_refusal
  room =
      let full = eqb s.count s.analog.capacity in
      let e = (both_zero (lent_refusal s lists) (cond (is_held m.heights s h) 0 (cond full 4 0)) taken).1 in
      let four : ℕ = cond full 4 0 in
      let d : four ≡ 0 = ap (λ c. cond c 0 four) (sym absent) ∙ e in
      let n = eqb-false s.count s.analog.capacity (unfilled full d) in
      let v = serves s lists x.lent in
      let w = v.rows-within in
      either s.count s.analog.capacity (λ l. l) (λ l. absurd (n (omega arith)))

  fitting : Fitting rank h b m (unkept s) after mark
  fitting = preload-fitting h b m z us bs ds s x room rank rank-fits

  place_same : place_of m.heights (unkept s) h ≡ place_of m.heights s h
  unfolding place_of
  place_same = refl

  rank_is : rank ≡ place_of m.heights (unkept s) h - s.start
  rank_is = ap (λ p. p - s.start) (sym place_same)

  absent-is : is_held m.heights (unkept s) h ≡ false
  absent-is = ap (is_at m.heights (s.start + s.count) h) place_same ∙ absent

  result-is : insert_if_absent_in h b hash (whole s lists) ≡ store_with rank h b hash after mark (unkept s) m z
  unfolding insert_if_absent_in
  result-is = ap (λ c. cond c (whole s lists) (store_with rank h b hash after mark (unkept s) m z)) absent

  pub preload-sound : Sound (insert_if_absent_in h b hash (whole s lists)).state (insert_if_absent_in h b hash (whole s lists)).memory
  preload-sound = subst (λ (u : Whole). Sound u.state u.memory) (sym result-is) (store-sound rank h b hash len m z us bs ds (unkept s) (unkept-sound s lists x) room rank_is absent-is after mark fitting)

  abbrev cleared-rates : History
  cleared-rates = set_rates none (view s lists)

  view-unkept : view (unkept s) lists ≡ cleared-rates
  unfolding view held_rows kept_rates
  view-unkept = refl

  rate-is : set_stale mark (set_hurdles (held_in after) cleared-rates) ≡ preload_rate h (hurdle_of b) s.analog_stale cleared-rates
  unfolding view held_rows
  rate-is = go (hurdle_of b) s.analog_stale refl
    where
      good_so : Good (windows_of s lists)
      good_so = sound_good s lists x

      room_so : s.analog_stale ≡ false → s.analog.count < s.analog.capacity
      room_so = windows-room s lists x room

      go : (o : Option ℕ) (t : Bool) → s.analog_stale ≡ t → set_stale (preload_stale rank s.count o t) (set_hurdles (held_in (preload_windows rank s.count o t (windows_of s lists))) cleared-rates) ≡ preload_rate h o t cleared-rates
      go none t e = no-rate (windows_of s lists) cleared-rates refl good_so room_so rank s.count t e
      go (some r) true e = stale-rate (windows_of s lists) cleared-rates refl good_so room_so rank s.count r e
      go (some r) false e =
          fresh-rate (windows_of s lists) cleared-rates refl good_so room_so rank s.count r e
          ∙ sym (hurdle-by-rank (row_at m) h s.start s.count (place_of m.heights s h) parts (λ l d. is-at-false m.heights (s.start + s.count) h (place_of m.heights s h) absent l d) r cleared-rates)

  pub preload-means : view (insert_if_absent_in h b hash (whole s lists)).state (insert_if_absent_in h b hash (whole s lists)).memory ≡ insert_if_absent_of h b hash (view s lists)
  unfolding insert_if_absent_of view
  preload-means =
      let model = evict (note_hash h hash (hold h b (preload_rate h (hurdle_of b) s.analog_stale cleared-rates))) in
      ap (λ (u : Whole). view u.state u.memory) result-is
      ∙ store-means rank h b hash len m z us bs ds (unkept s) (unkept-sound s lists x) room rank_is absent-is after mark fitting
      ∙ ap (λ (v : History). evict (note_hash h hash (hold h b (set_stale mark (set_hurdles (held_in after) v))))) view-unkept
      ∙ ap (λ (v : History). evict (note_hash h hash (hold h b v))) rate-is
      ∙ sym (ap (λ c. cond c (view s lists) model) (contains-is s m h x.ascends ∙ absent))

-- ---- of a held height nothing changes

module _ (h : ℕ) (b : HistoricalFeeBlock) (hash : Option (List ℕ)) (s : FeeHistory) (lists : Lent) (there : is_held lists.rows.heights s h ≡ true) where
  pub preload-held : insert_if_absent_in h b hash (whole s lists) ≡ whole s lists
  unfolding insert_if_absent_in
  preload-held = rw there

  pub held-means : Ascends (held_rows lists.rows s) → view s lists ≡ insert_if_absent_of h b hash (view s lists)
  unfolding insert_if_absent_of view
  held-means asc =
      let y = set_rates none (view s lists) in
      sym (ap (λ c. cond c (view s lists) (evict (note_hash h hash (hold h b (preload_rate h (hurdle_of b) y.stale y))))) (contains-is s lists.rows h asc ∙ there))

-- ---- the contract

module _ (h : ℕ) (b : HistoricalFeeBlock) (hash : Option (List ℕ)) (len : Whole32 hash) (x : Whole) where
  abbrev refusal : ℕ
  refusal = insert_if_absent_refusal h x.state x.memory

  abbrev answer : Whole
  answer = insert_if_absent_in h b hash x

  pub both : Sound x.state x.memory → refusal ≡ 0 → (view answer.state answer.memory ≡ insert_if_absent_of h b hash (view x.state x.memory)) × Sound answer.state answer.memory
  both k t = go (is_held x.memory.rows.heights x.state h) refl
    where
      m : Lent
      m = x.memory

      go : (c : Bool) → is_held x.memory.rows.heights x.state h ≡ c → (view answer.state answer.memory ≡ insert_if_absent_of h b hash (view x.state x.memory)) × Sound answer.state answer.memory
      go true e =
          let d = preload-held h b hash x.state m e in
          (ap (λ (u : Whole). view u.state u.memory) d ∙ held-means h b hash x.state m e k.ascends, subst (λ (u : Whole). Sound u.state u.memory) (sym d) k)
      go false e =
          (preload-means h b hash len m.rows m.hashes m.hurdles m.befores m.aheads x.state k t e, preload-sound h b hash len m.rows m.hashes m.hurdles m.befores m.aheads x.state k t e)

  module _ (v : Verdict) (y : Whole) (o : v ≡ verdict_of refusal) (e : y ≡ cond (eqb refusal 0) answer x) where
    done_so : refusal ≡ 0 → y ≡ answer
    done_so t = e ∙ ap (λ c. cond c answer x) (eq-eqb refusal 0 t)

    kept_so : (refusal ≡ 0 → ⊥) → y ≡ x
    kept_so t = e ∙ ap (λ c. cond c answer x) (ne_eqb refusal 0 t)

    preloads : InsertsIfAbsent h b hash x v y
    preloads = record {
      outcome = o;
      is = e;
      full = λ k. preload-full h x.state x.memory k;
      means = λ k t. ap (λ (u : Whole). view u.state u.memory) (done_so t) ∙ (both k t).0;
      sound = λ k. ⊎_elim (λ t. subst (λ (u : Whole). Sound u.state u.memory) (sym (done_so t)) (both k t).1) (λ t. subst (λ (u : Whole). Sound u.state u.memory) (sym (kept_so t)) k) (zero_or_not refusal);
    }

  pub preload-refused : (k : ℕ) → k ≡ refusal → (k ≡ 0 → ⊥) → InsertsIfAbsent h b hash x (refused k) x
  preload-refused k e n =
      let d : refusal ≡ 0 → ⊥ = λ y. n (e ∙ y) in
      preloads (refused k) x (ap refused e ∙ refusing refusal d) (ap (λ c. cond c answer x) (sym (ne_eqb refusal 0 d)))

  pub preload-done : (y : Whole) → refusal ≡ 0 → y ≡ answer → InsertsIfAbsent h b hash x done y
  unfolding verdict_of
  preload-done y r d = preloads done y (ap verdict_of (sym r)) (d ∙ ap (λ c. cond c answer x) (sym (eq-eqb refusal 0 r)))
