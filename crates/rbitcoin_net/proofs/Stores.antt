-- A row held with its hurdle, and a hash noted: what each does to the view, and that a sound state stays sound. Assumes nothing.
use Prim.Native.Nat.{ℕ, ◌+◌, ◌-◌, ◌<◌}
use mathlib.Core.Path.{◌≡◌, refl, sym, ◌∙◌, ap, subst}
use mathlib.Core.Bool.{Bool, false, cond}
use mathlib.Core.List.{List, ◌∷◌, ◌++◌}
use mathlib.Core.Option.{Option, none, some}
use native.Mathlib.Omega.{arith}
use lib.Ieee.{Float}
use lib.ListN.{length, get_or}
use Rattle.num.specs.Word.{saturating_add}
use Rattle.slices.specs.Lists.{tabulate}
use Rattle.rbitcoin_mempool.specs.Reached.{SetUpAs as WindowsSetUpAs}
use Rattle.rbitcoin_mempool.specs.Rates.{rate_at, mark_of, number_of}
use Rattle.rbitcoin_mempool.specs.Windows.{Windows, held_in}
use Rattle.rbitcoin_mempool.proofs.Kept.{Good, good-stored}
use Rattle.rbitcoin_net.specs.declared.fee_history.HistoricalFeeBlock.{HistoricalFeeBlock}
use Rattle.rbitcoin_net.specs.declared.fee_history.FeeHistory.{FeeHistory}
use Rattle.rbitcoin_net.specs.Map.{Entry, entry, Ascends, insert}
use Rattle.rbitcoin_net.specs.History.{History, set_hashes, set_hurdles, set_stale, hurdle_of, hold, note_hash, hurdles_of, evict, newest}
use Rattle.rbitcoin_net.specs.Lent.{Rows, Hashes, Lent, lent, row_at, held_rows, held_hashes, hashes_in, kept_rates, view, Sound}
use Rattle.rbitcoin_net.specs.Search.{place_of, is_at, is_held}
use Rattle.rbitcoin_net.specs.Hashes.{HashList, hash_list, Room, Whole32, hash_place, note_hash_in}
use Rattle.rbitcoin_net.specs.Cuts.{with_hashes}
use Rattle.rbitcoin_net.specs.Rooms.{start_with, Stored, stored, hold_at, Roomy}
use Rattle.rbitcoin_net.specs.Inserts.{Whole, with_windows, store_in, store_with}
use Rattle.rbitcoin_net.proofs.Tables.{Parts}
use Rattle.rbitcoin_net.proofs.Search.{place_parts}
use Rattle.rbitcoin_net.proofs.Refusals.{Serves, serves, serves-lent}
use Rattle.rbitcoin_net.proofs.Rooms.{row_put-long, start-room, source, target, held-rows, hold-view}
use Rattle.rbitcoin_net.proofs.MapLaws.{insert-ascends, newest-ascends}
use Rattle.rbitcoin_net.proofs.CutViews.{hash_parts}
use Rattle.rbitcoin_net.proofs.HashViews.{note-view, note-room}
use Rattle.rbitcoin_net.proofs.EvictViews.{evict-view}
use Rattle.rbitcoin_net.proofs.EvictSound.{sound-fit, evict-sound}

-- ---- a row of an absent height, put in at its rank, over windows that have its hurdle

-- the rows with the new one at rank q
abbrev pub with_row : ℕ → ℕ → HistoricalFeeBlock → Rows → FeeHistory → List (Entry HistoricalFeeBlock)
with_row q h b m s = tabulate (row_at m) s.start q ++ entry h b ∷ tabulate (row_at m) (s.start + q) (s.count - q)

-- windows that go with a state and its new row
pub record Fitting (q h : ℕ) (b : HistoricalFeeBlock) (m : Rows) (s : FeeHistory) (w : Windows) (stale : Bool) : Type 0 where
  pub good : Good w
  pub set-up : WindowsSetUpAs s.analog w.state
  pub hurdles : stale ≡ false → held_in w ≡ hurdles_of (with_row q h b m s)

module _ (q h : ℕ) (b : HistoricalFeeBlock) (m : Rows) (z : Hashes) (us : List ℕ) (bs : List Float) (ds : List ℕ) (s : FeeHistory) (x : Sound s (lent m z us bs ds))
    (room : s.count < s.analog.capacity) (rank : q ≡ place_of m.heights s h - s.start) (absent : is_held m.heights s h ≡ false)
    (w : Windows) (stale : Bool) (f : Fitting q h b m s w stale) where
  abbrev before : FeeHistory
  before = with_windows w.state stale s

  abbrev after : Stored
  after = hold_at q h b (stored before m)

  abbrev memory : Lent
  memory = lent after.rows z w.hurdles w.befores w.aheads

  served : Serves s (lent m z us bs ds)
  served = serves s (lent m z us bs ds) x.lent

  parts : Parts (λ i. (row_at m i).key) h s.start (s.start + s.count) (place_of m.heights s h)
  parts = place_parts m s h x.ascends

  roomy : Roomy q before (length m.heights) (length m.marks) (length m.rates) (length m.sizes)
  roomy =
      let c = f.set-up.same_capacity in
      let v = served in
      let r = v.rows-reach in
      let p = parts in
      record {
        within = omega (arith, v.rows-within);
        room = omega arith;
        small = omega (arith, v.windows.small);
        rank = omega (arith, p.low, p.high);
        heights = omega (arith, r.heights);
        marks = omega (arith, r.marks);
        rates = omega (arith, r.rates);
        sizes = omega (arith, r.sizes);
      }

  place_same : place_of m.heights before h ≡ place_of m.heights s h
  unfolding place_of
  place_same = refl

  rows_same : held_rows m before ≡ held_rows m s
  unfolding held_rows
  rows_same = refl

  rows-after : held_rows after.rows after.state ≡ insert h b (held_rows m s)
  rows-after =
      hold-view h b before m q roomy (subst Ascends (sym rows_same) x.ascends) (rank ∙ ap (λ p. p - s.start) (sym place_same)) (ap (is_at m.heights (s.start + s.count) h) place_same ∙ absent)
      ∙ ap (insert h b) rows_same

  pub hold-means : view after.state memory ≡ hold h b (set_stale stale (set_hurdles (held_in w) (view s (lent m z us bs ds))))
  unfolding view hold hold_at kept_rates
  hold-means = λ i. record {
    blocks = rows-after i;
    total = saturating_add s.txstat_bytes b.txstat_bytes;
    budget = s.budget;
    targets = tabulate (λ k. get_or (f.set-up.same_targets i) k 0) 0 (f.set-up.same_tracked i);
    hashes = held_hashes z s;
    hurdles = held_in w;
    stale = stale;
    rates = cond s.kept (some (tabulate (rate_at s.kept_numbers s.kept_marks) 0 (f.set-up.same_tracked i))) none;
  }

  after-serves : Serves after.state memory
  unfolding hold_at
  after-serves =
      let v = served in
      let l = start-room q h b before m roomy in
      let n = before.count - q in
      let to = start_with before q in
      let a = row_put-long m.heights s.start to q n (source q h b before m roomy _ roomy.heights) (target q h b before m roomy _ roomy.heights) 0 h in
      let d = row_put-long m.marks s.start to q n (source q h b before m roomy _ roomy.marks) (target q h b before m roomy _ roomy.marks) 0 (mark_of (hurdle_of b)) in
      let e = row_put-long m.rates s.start to q n (source q h b before m roomy _ roomy.rates) (target q h b before m roomy _ roomy.rates) 0 (number_of (hurdle_of b)) in
      let g = row_put-long m.sizes s.start to q n (source q h b before m roomy _ roomy.sizes) (target q h b before m roomy _ roomy.sizes) 0 b.txstat_bytes in
      record {
        rows-within = omega arith;
        hashes-few = v.hashes-few;
        rows-reach = record { heights = omega (arith, roomy.heights); marks = omega (arith, roomy.marks); rates = omega (arith, roomy.rates); sizes = omega (arith, roomy.sizes) };
        heights-reach = v.heights-reach;
        bytes-reach = v.bytes-reach;
        windows = f.good.valid;
      }

  pub hold-sound : Sound after.state memory
  unfolding hold_at
  hold-sound = record {
    lent = serves-lent after.state memory after-serves;
    ascends = subst Ascends (sym rows-after) (insert-ascends h b (held_rows m s) x.ascends);
    hashes_ascend = x.hashes_ascend;
    stored = good-stored w f.good;
    hurdles = λ st. f.hurdles st ∙ ap hurdles_of (sym (held-rows q h b before m roomy));
  }

-- ---- a hash noted

module _ (h : ℕ) (m : Rows) (z : Hashes) (us : List ℕ) (bs : List Float) (ds : List ℕ) (s : FeeHistory) (x : Sound s (lent m z us bs ds)) where
  abbrev noted : Option (List ℕ) → HashList
  noted hash = note_hash_in h hash (hash_list s.hashes z)

  room_for : Room (hash_list s.hashes z)
  room_for =
      let v = serves s (lent m z us bs ds) x.lent in
      record { few = v.hashes-few; heights = v.heights-reach; bytes = v.bytes-reach }

  note-is : (bytes : List ℕ) → length bytes ≡ 32 → hashes_in (noted (some bytes)).count (noted (some bytes)).lists ≡ newest (insert h bytes (hashes_in s.hashes z))
  note-is bytes len = note-view h bytes len (hash_list s.hashes z) room_for x.hashes_ascend

  pub note-means : (hash : Option (List ℕ)) → Whole32 hash → view (with_hashes (noted hash).count s) (lent m (noted hash).lists us bs ds) ≡ note_hash h hash (view s (lent m z us bs ds))
  unfolding view kept_rates held_rows
  note-means none len = refl
  note-means (some bytes) len = λ i. set_hashes (note-is bytes len i) (view s (lent m z us bs ds))

  pub note-sound : (hash : Option (List ℕ)) → Whole32 hash → Sound (with_hashes (noted hash).count s) (lent m (noted hash).lists us bs ds)
  unfolding held_rows
  note-sound none len = x
  note-sound (some bytes) len =
      let k = noted (some bytes) in
      let v = serves s (lent m z us bs ds) x.lent in
      let p = hash_parts m z us bs ds h s.hashes x.hashes_ascend in
      let r = note-room (hash_place h (hash_list s.hashes z)) h bytes len (hash_list s.hashes z) room_for p.high in
      record {
        lent =
            serves-lent (with_hashes k.count s) (lent m k.lists us bs ds)
            (record { rows-within = v.rows-within; hashes-few = r.few; rows-reach = v.rows-reach; heights-reach = r.heights; bytes-reach = r.bytes; windows = v.windows });
        ascends = x.ascends;
        hashes_ascend = subst Ascends (sym (note-is bytes len)) (newest-ascends (insert h bytes (hashes_in s.hashes z)) (insert-ascends h bytes (hashes_in s.hashes z) x.hashes_ascend));
        stored = x.stored;
        hurdles = x.hurdles;
      }

-- ---- the three steps together

module _ (q h : ℕ) (b : HistoricalFeeBlock) (hash : Option (List ℕ)) (len : Whole32 hash) (m : Rows) (z : Hashes) (us : List ℕ) (bs : List Float) (ds : List ℕ) (s : FeeHistory) (x : Sound s (lent m z us bs ds))
    (room : s.count < s.analog.capacity) (rank : q ≡ place_of m.heights s h - s.start) (absent : is_held m.heights s h ≡ false)
    (w : Windows) (stale : Bool) (f : Fitting q h b m s w stale) where
  abbrev stored_so : Stored
  stored_so = hold_at q h b (stored (with_windows w.state stale s) m)

  abbrev noted_so : HashList
  noted_so = note_hash_in h hash (hash_list stored_so.state.hashes z)

  abbrev result : Whole
  result = store_with q h b hash w stale s m z

  sound-held : Sound stored_so.state (lent stored_so.rows z w.hurdles w.befores w.aheads)
  sound-held = hold-sound q h b m z us bs ds s x room rank absent w stale f

  sound-noted : Sound (with_hashes noted_so.count stored_so.state) (lent stored_so.rows noted_so.lists w.hurdles w.befores w.aheads)
  sound-noted = note-sound h stored_so.rows z w.hurdles w.befores w.aheads stored_so.state sound-held hash len

  pub store-sound : Sound result.state result.memory
  unfolding store_in
  store-sound = evict-sound stored_so.rows w.hurdles w.befores w.aheads (with_hashes noted_so.count stored_so.state) noted_so.lists sound-noted

  pub store-means : view result.state result.memory ≡ evict (note_hash h hash (hold h b (set_stale stale (set_hurdles (held_in w) (view s (lent m z us bs ds))))))
  unfolding store_in
  store-means =
      evict-view stored_so.rows w.hurdles w.befores w.aheads (with_hashes noted_so.count stored_so.state) noted_so.lists (sound-fit stored_so.rows w.hurdles w.befores w.aheads (with_hashes noted_so.count stored_so.state) noted_so.lists sound-noted)
      ∙ ap evict (note-means h stored_so.rows z w.hurdles w.befores w.aheads stored_so.state sound-held hash len)
      ∙ ap (λ (v : History). evict (note_hash h hash v)) (hold-means q h b m z us bs ds s x room rank absent w stale f)
