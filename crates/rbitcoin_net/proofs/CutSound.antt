-- A cut leaves a sound state sound. Assumes nothing.
use Prim.Native.Nat.{ℕ, zero, suc, ◌+◌, ◌-◌}
use mathlib.Core.Path.{◌≡◌, refl, sym, ◌∙◌, ap, subst}
use mathlib.Core.Bool.{Bool, true, false, cond, not, ◌&&◌}
use mathlib.Core.List.{List, [], ◌∷◌, ◌++◌, append-nil}
use mathlib.Core.Option.{Option, none, some}
use native.Mathlib.Omega.{arith}
use lib.Dec.{eqb}
use lib.Ieee.{Float}
use lib.ListN.{length, get_or, take, length-append}
use lib.Seq.{length-take-le, take-append-add}
use Rattle.slices.specs.Lists.{tabulate}
use Rattle.rbitcoin_mempool.specs.declared.fee_analog.history.AnalogHistory.{AnalogHistory}
use Rattle.rbitcoin_mempool.specs.Pairs.{pop_back}
use Rattle.rbitcoin_mempool.specs.Outcome.{Verdict, done, refused, verdict_of}
use Rattle.rbitcoin_mempool.specs.Windows.{held_in, pop_back_of, or_else}
use Rattle.rbitcoin_mempool.proofs.Kept.{Good, good-stored, stored_good}
use Rattle.rbitcoin_mempool.proofs.Refusals.{valid-state, or-else_second, refusing}
use borrow.Author.Tests.{eq-eqb, ne_eqb}
use Rattle.rbitcoin_net.specs.declared.fee_history.HistoricalFeeBlock.{HistoricalFeeBlock}
use Rattle.rbitcoin_net.specs.declared.fee_history.FeeHistory.{FeeHistory}
use Rattle.rbitcoin_net.specs.Map.{Entry, is_some}
use Rattle.rbitcoin_net.specs.History.{History, truncate_above, hurdle_of, forget, forget_all, next, cons_maybe, hurdles_of}
use Rattle.rbitcoin_net.specs.Lent.{Rows, rows, Hashes, hashes, Lent, lent, row_at, held_rows, hash_at, hashes_in, windows_of, view, state_refusal, rows_refusal, Sound}
use Rattle.slices.specs.Search.{bisect}
use Rattle.rbitcoin_net.specs.Search.{place_of}
use Rattle.rbitcoin_net.specs.Hashes.{hash_list, hash_place}
use Rattle.rbitcoin_net.specs.Cuts.{with_rows, with_hashes, unkept, forget_row, forget_rows, cut_at, drop_from, truncate_in, truncate_refusal, truncate_refusal_of, Truncates}
use Rattle.rbitcoin_net.proofs.Tables.{Parts, table-split, ascends-at, ascends_of}
use Rattle.rbitcoin_net.proofs.Search.{place_parts, place_is}
use Rattle.rbitcoin_net.proofs.Hashes.{hash-place-is}
use Rattle.rbitcoin_net.proofs.Refusals.{Within, within, state_taken, lent_parts, windows_valid, lent_again}
use Rattle.rbitcoin_net.proofs.SetUps.{drop-set-up}
use Rattle.rbitcoin_net.proofs.CutViews.{forgets_good, forgets-view, hash_parts, cut-is, cut-view}

-- ---- the hurdles of rows

pub hurdles_append : (xs ys : List (Entry HistoricalFeeBlock)) → hurdles_of (xs ++ ys) ≡ hurdles_of xs ++ hurdles_of ys
unfolding hurdles_of
hurdles_append [] ys = refl
hurdles_append (x ∷ xs) ys = go (hurdle_of x.value) (hurdles_append xs ys)
  where
    go : (o : Option ℕ) → hurdles_of (xs ++ ys) ≡ hurdles_of xs ++ hurdles_of ys → cons_maybe o (hurdles_of (xs ++ ys)) ≡ cons_maybe o (hurdles_of xs) ++ hurdles_of ys
    go none e = e
    go (some r) e = ap (λ l. r ∷ l) e

-- what one forgotten block leaves of hurdles that end in as many as there are rates to forget
abbrev Left : List ℕ → List ℕ → List ℕ → Type 0
Left hs ys rest = (zs : List ℕ) × (hs ≡ ys ++ zs) × (length zs ≡ length rest)

pop-last : (hs ys zs : List ℕ) (n : ℕ) → hs ≡ ys ++ zs → length zs ≡ suc n → pop_back hs ≡ ys ++ take n zs
pop-last hs ys zs n e l =
    let d : length hs ≡ length ys + length zs = ap length e ∙ length-append ys zs in
    let f : length hs - 1 ≡ length ys + n = omega arith in
    ap (λ k. take k hs) f ∙ ap (take (length ys + n)) e ∙ take-append-add ys zs n

forget-step : (o : Option ℕ) (hs ys zs rest : List ℕ) → hs ≡ ys ++ zs → length zs ≡ length (cons_maybe o rest) → Left (cond (is_some o && true) (pop_back hs) hs) ys rest
forget-step none hs ys zs rest e l = (zs, e, l)
forget-step (some r) hs ys zs rest e l = (take (length rest) zs, pop-last hs ys zs (length rest) e l, length-take-le (length rest) zs (omega arith))

nothing_left : (zs : List ℕ) → length zs ≡ 0 → zs ≡ []
nothing_left [] e = refl
nothing_left (z ∷ zs) e = absurd (let f : ⊥ = omega arith in f)

pub forgotten-hurdles : (es : List (Entry HistoricalFeeBlock)) (x : History) (ys zs : List ℕ) → x.stale ≡ false → x.hurdles ≡ ys ++ zs → length zs ≡ length (hurdles_of es) → (forget_all pop_back es x).hurdles ≡ ys
unfolding forget_all forget hurdles_of
forgotten-hurdles [] x ys zs st e l = e ∙ ap (λ v. ys ++ v) (nothing_left zs l) ∙ append-nil ys
forgotten-hurdles (b ∷ es) x ys zs st e l =
    let o = hurdle_of b.value in
    let s = forget-step o x.hurdles ys zs (hurdles_of es) e l in
    let d : (forget pop_back b.value x).hurdles ≡ cond (is_some o && true) (pop_back x.hurdles) x.hurdles = ap (λ (t : Bool). cond (is_some o && not t) (pop_back x.hurdles) x.hurdles) st in
    forgotten-hurdles es (forget pop_back b.value x) ys s.0 st (d ∙ s.1) s.2

-- ---- what a forgotten row leaves as it was

module _ (m : Rows) where
  abbrev forgotten : ℕ → FeeHistory → FeeHistory
  forgotten i s = forget_row pop_back_of (get_or m.marks i 0) (get_or m.sizes i 0) s

  pub stale-stays : (n i : ℕ) (s : FeeHistory) → (forget_rows pop_back_of m i n s).analog_stale ≡ s.analog_stale
  unfolding forget_rows forget_row
  stale-stays zero i s = refl
  stale-stays (suc n) i s = stale-stays n (suc i) (forgotten i s)

module _ (m : Rows) (z : Hashes) (us : List ℕ) (bs : List Float) (ds : List ℕ) (k : ℕ) (s : FeeHistory) (x : Sound s (lent m z us bs ds)) where
  abbrev memory : Lent
  memory = lent m z us bs ds

  abbrev place : ℕ
  place = place_of m.heights s k

  abbrev dropped : ℕ
  dropped = s.start + s.count - place

  abbrev left : FeeHistory
  left = forget_rows pop_back_of m place dropped s

  good : Good (windows_of s memory)
  good = stored_good (windows_of s memory) (windows_valid s memory x.lent) x.stored

  left_good : Good (windows_of left memory)
  left_good = forgets_good m z us bs ds dropped place s good

  state_was : Within s
  state_was = within s (lent_parts s memory x.lent).state

  parts : Parts (λ i. (row_at m i).key) k s.start (s.start + s.count) place
  parts = place_parts m s k x.ascends

  hash-place : Parts (λ i. (hash_at z i).key) k 0 s.hashes (hash_place k (hash_list s.hashes z))
  hash-place = hash_parts m z us bs ds k s.hashes x.hashes_ascend

  state-is : state_refusal (drop_from k m z s) ≡ 0
  unfolding drop_from cut_at
  state-is =
      let w = state_was in
      let p = parts in
      let q = hash-place in
      let c = (drop-set-up k m z s).same_windows.same_capacity in
      sym (state_taken (drop_from k m z s) 0 (sym (valid-state left.analog _ _ _ left_good.valid)) refl (omega (arith, p.low, p.high, w.rows)) (omega (arith, q.high, w.hashes)))

  low-high : held_rows m s ≡ tabulate (row_at m) s.start (place - s.start) ++ tabulate (row_at m) place dropped
  unfolding held_rows
  low-high = let p = parts in table-split (row_at m) s.start s.count place p.low p.high

  hurdles-left : s.analog_stale ≡ false → held_in (windows_of left memory) ≡ hurdles_of (tabulate (row_at m) s.start (place - s.start))
  unfolding view
  hurdles-left st =
      ap (λ (v : History). v.hurdles) (forgets-view m z us bs ds dropped place s good)
      ∙ forgotten-hurdles (tabulate (row_at m) place dropped) (view s memory) (hurdles_of (tabulate (row_at m) s.start (place - s.start))) (hurdles_of (tabulate (row_at m) place dropped)) st
      (x.hurdles st ∙ ap hurdles_of low-high ∙ hurdles_append (tabulate (row_at m) s.start (place - s.start)) (tabulate (row_at m) place dropped))
      refl

  pub cut-sound : Sound (drop_from k m z s) memory
  unfolding drop_from cut_at held_rows hashes_in
  cut-sound =
      let p = parts in
      let q = hash-place in
      record {
        lent = lent_again s (drop_from k m z s) memory (drop-set-up k m z s).same_windows state-is x.lent;
        ascends = ascends_of (row_at m) (place - s.start) s.start (λ i j l o r. ascends-at (row_at m) s.count s.start x.ascends i j l o (omega (arith, p.low, p.high)));
        hashes_ascend = ascends_of (hash_at z) (hash_place k (hash_list s.hashes z)) 0 (λ i j l o r. ascends-at (hash_at z) s.hashes 0 x.hashes_ascend i j l o (omega (arith, q.high)));
        stored = good-stored (windows_of left memory) left_good;
        hurdles = λ st. hurdles-left (sym (stale-stays m dropped place s) ∙ st);
      }

pub cut-means : (m : Rows) (z : Hashes) (us : List ℕ) (bs : List Float) (ds : List ℕ) (h : ℕ) (s : FeeHistory) → Sound s (lent m z us bs ds) → view (truncate_in h m z s) (lent m z us bs ds) ≡ truncate_above h (view s (lent m z us bs ds))
cut-means m z us bs ds h s x = cut-view m z us bs ds (next h) s (good m z us bs ds (next h) s x) x.ascends x.hashes_ascend ∙ sym (cut-is h (view s (lent m z us bs ds)))

-- ---- `truncate_above`

-- what a cut leaves depends on heights, marks and sizes, and on no byte of a hash
rows_alike : (pop : AnalogHistory → AnalogHistory) (hs gs ms rs qs zs : List ℕ) (n i : ℕ) (s : FeeHistory) → forget_rows pop (rows hs ms rs zs) i n s ≡ forget_rows pop (rows gs ms qs zs) i n s
unfolding forget_rows
rows_alike pop hs gs ms rs qs zs zero i s = refl
rows_alike pop hs gs ms rs qs zs (suc n) i s = rows_alike pop hs gs ms rs qs zs n (suc i) (forget_row pop (get_or ms i 0) (get_or zs i 0) s)

pub cut_alike : (hs gs ms rs qs zs : List ℕ) (p : ℕ) (s : FeeHistory) → cut_at (rows hs ms rs zs) p s ≡ cut_at (rows gs ms qs zs) p s
unfolding cut_at
cut_alike hs gs ms rs qs zs p s = ap (with_rows s.start (p - s.start)) (rows_alike pop_back_of hs gs ms rs qs zs (s.start + s.count - p) p s)

pub truncate_alike : (h : ℕ) (hs ms rs zs ks bs : List ℕ) (s : FeeHistory) → truncate_in h (rows hs ms [] zs) (hashes ks []) s ≡ truncate_in h (rows hs ms rs zs) (hashes ks bs) s
unfolding drop_from hash_place
truncate_alike h hs ms rs zs ks bs s = ap (λ (t : FeeHistory). with_hashes (bisect s.hashes ks (next h) 0 s.hashes) (unkept t)) (cut_alike hs hs ms [] rs zs (place_of hs s (next h)) s)

-- the code's cut
pub truncated : (h k : ℕ) (m : Rows) (z : Hashes) (s c t : FeeHistory) (p q : ℕ) → k ≡ next h
    → p ≡ bisect (s.start + s.count - s.start) m.heights k s.start (s.start + s.count) → q ≡ bisect (s.hashes - 0) z.heights k 0 s.hashes
    → c ≡ cut_at m p s → t ≡ with_hashes q (unkept c)
    → t ≡ truncate_in h m z s
unfolding drop_from
truncated h k m z s c t p q n e d f g =
    let a : p ≡ place_of m.heights s (next h) = place_is m.heights s k p e ∙ ap (place_of m.heights s) n in
    let l = hash_list s.hashes z in
    let b : q ≡ hash_place (next h) l = hash-place-is k l q d ∙ ap (λ j. hash_place j l) n in
    g
    ∙ (λ i. with_hashes (b i) (unkept (f i)))
    ∙ ap (λ j. with_hashes (hash_place (next h) l) (unkept (cut_at m j s))) a

module _ (h : ℕ) (m : Rows) (z : Hashes) (s : FeeHistory) (v : Verdict) (t : FeeHistory) (o : v ≡ verdict_of (truncate_refusal_of s m z)) (e : t ≡ cond (eqb (truncate_refusal_of s m z) 0) (truncate_in h m z s) s) where
  -- memory that serves a sound state is not refused
  taken : (us : List ℕ) (bs : List Float) (ds : List ℕ) → Sound s (lent m z us bs ds) → t ≡ truncate_in h m z s
  unfolding truncate_refusal
  taken us bs ds x =
      let p = lent_parts s (lent m z us bs ds) x.lent in
      let r : truncate_refusal_of s m z ≡ 0 = or-else_second (or_else (state_refusal s) (rows_refusal s.analog.capacity (length m.heights) (length m.marks) (length m.rates) (length m.sizes))) _ (or-else_second (state_refusal s) _ p.state ∙ p.rows) ∙ p.hashes in
      e ∙ ap (λ b. cond b (truncate_in h m z s) s) (eq-eqb _ 0 r)

  truncates : Truncates h m z s v t
  truncates = record {
    outcome = o;
    is = e;
    means = λ us bs ds x. ap (λ (u : FeeHistory). view u (lent m z us bs ds)) (taken us bs ds x) ∙ cut-means m z us bs ds h s x;
    sound = λ us bs ds x. subst (λ (u : FeeHistory). Sound u (lent m z us bs ds)) (sym (taken us bs ds x)) (cut-sound m z us bs ds (next h) s x);
  }

module _ (h : ℕ) (m : Rows) (z : Hashes) (s : FeeHistory) (k : ℕ) (e : k ≡ truncate_refusal_of s m z) where
  pub truncate-refused : (k ≡ 0 → ⊥) → Truncates h m z s (refused k) s
  truncate-refused n =
      let d : truncate_refusal_of s m z ≡ 0 → ⊥ = λ y. n (e ∙ y) in
      truncates h m z s (refused k) s (ap refused e ∙ refusing (truncate_refusal_of s m z) d) (ap (λ b. cond b (truncate_in h m z s) s) (sym (ne_eqb _ 0 d)))

  pub truncate-done : (t : FeeHistory) → k ≡ 0 → t ≡ truncate_in h m z s → Truncates h m z s done t
  unfolding verdict_of
  truncate-done t y d =
      let r : truncate_refusal_of s m z ≡ 0 = sym e ∙ y in
      truncates h m z s done t (ap verdict_of (sym r)) (d ∙ ap (λ b. cond b (truncate_in h m z s) s) (sym (eq-eqb _ 0 r)))
