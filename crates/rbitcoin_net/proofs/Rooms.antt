-- A list with one element more among those that it held: the code's moves by the definition, and what stands where. Assumes nothing.
use Prim.Native.Nat.{ℕ, suc, ◌+◌, ◌-◌, ◌/◌, ◌≤◌, ◌<◌}
use mathlib.Core.Path.{◌≡◌, refl, sym, ◌∙◌, ap}
use mathlib.Core.Bool.{Bool, true, false, cond}
use mathlib.Core.List.{List, ◌∷◌, ◌++◌}
use native.Mathlib.Omega.{arith}
use lib.Dec.{ltb, eqb}
use lib.ListN.{length, get_or, set, length-set}
use lib.Seq.{get_or-set_same, get_or-set_other}
use borrow.Author.Tests.{le-leb, lt-leb, eqb-false}
use Rattle.slices.specs.Lists.{tabulate, moved, copy_within}
use Rattle.slices.proofs.Runs.{copied, length_moved, moved-below, moved_in, moved-above}
use Rattle.rbitcoin_net.specs.Rooms.{row_put, free_of, start_with, Stored, stored, hold_at, Roomy}
use Rattle.std.specs.declared.option.Option as rust
use Rattle.std.specs.Prelude.{Some, None}
use Rattle.rbitcoin_mempool.specs.Rates.{given, mark_of, number_of}
use Rattle.rbitcoin_net.specs.Map.{entry, Ascends, insert}
use Rattle.rbitcoin_net.specs.History.{hurdle_of}
use Rattle.rbitcoin_net.specs.Lent.{Rows, rate_of, row_at, held_rows}
use Rattle.rbitcoin_net.specs.Search.{place_of, is_held}
use Rattle.rbitcoin_net.specs.declared.fee_history.HistoricalFeeBlock.{HistoricalFeeBlock}
use Rattle.rbitcoin_net.proofs.Search.{place_parts, is-at-false}
use Rattle.rbitcoin_net.specs.declared.fee_history.FeeHistory.{FeeHistory}
use Rattle.rbitcoin_net.proofs.Tables.{either, table-add, table_ext, insert_absent}

module _ {A : Type 0} (xs : List A) (from to q r : ℕ) (source : from + q + r ≤ length xs) (target : to + q + 1 + r ≤ length xs) where
  abbrev low : List A
  low = moved xs to from q

  abbrev high : List A
  high = moved xs (to + q + 1) (from + q) r

  low-long : length low ≡ length xs
  low-long = length_moved xs to from q (omega arith) (omega arith)

  high-long : length high ≡ length xs
  high-long = length_moved xs (to + q + 1) (from + q) r (omega arith) (omega arith)

  -- the code's two moves
  module _ (v : A) (ys zs : List A) where
    pub open-down : to ≤ from → ys ≡ copy_within xs to from q → zs ≡ copy_within ys (to + q + 1) (from + q) r → set zs (to + q) v ≡ row_put from to q r v xs
    unfolding row_put
    open-down l e d =
        let u : ys ≡ low = e ∙ copied xs to from q (omega arith) (omega arith) in
        let n = low-long in
        let w : zs ≡ moved low (to + q + 1) (from + q) r = d ∙ ap (λ k. copy_within k (to + q + 1) (from + q) r) u ∙ copied low (to + q + 1) (from + q) r (omega arith) (omega arith) in
        rw (le-leb to from l) (ap (λ k. set k (to + q) v) w)

    pub open_up : from < to → ys ≡ copy_within xs (to + q + 1) (from + q) r → zs ≡ copy_within ys to from q → set zs (to + q) v ≡ row_put from to q r v xs
    unfolding row_put
    open_up l e d =
        let u : ys ≡ high = e ∙ copied xs (to + q + 1) (from + q) r (omega arith) (omega arith) in
        let n = high-long in
        let w : zs ≡ moved high to from q = d ∙ ap (λ k. copy_within k to from q) u ∙ copied high to from q (omega arith) (omega arith) in
        rw (lt-leb to from l) (ap (λ k. set k (to + q) v) w)

  -- what stands where
  module _ (z v : A) where
    pub row_put-long : length (row_put from to q r v xs) ≡ length xs
    unfolding row_put
    row_put-long =
        either from to
        (λ up. rw (lt-leb to from up) (length-set (moved high to from q) (to + q) v ∙ (let n = high-long in length_moved high to from q (omega arith) (omega arith) ∙ n)))
        (λ down. rw (le-leb to from down) (length-set (moved low (to + q + 1) (from + q) r) (to + q) v ∙ (let n = low-long in length_moved low (to + q + 1) (from + q) r (omega arith) (omega arith) ∙ n)))

    pub row_put-low : (i : ℕ) → i < q → get_or (row_put from to q r v xs) (to + i) z ≡ get_or xs (from + i) z
    unfolding row_put
    row_put-low i l =
        let ne : to + i ≡ to + q → ⊥ = λ e. omega arith in
        either from to
        (λ up.
        let n = high-long in
        rw (lt-leb to from up)
        (get_or-set_other (moved high to from q) (to + q) (to + i) v z ne
        ∙ moved_in high to from q z (omega arith) (omega arith) i l
        ∙ moved-below xs (to + q + 1) (from + q) r z (omega arith) (omega arith) (from + i) (omega arith)))
        (λ down.
        let n = low-long in
        rw (le-leb to from down)
        (get_or-set_other (moved low (to + q + 1) (from + q) r) (to + q) (to + i) v z ne
        ∙ moved-below low (to + q + 1) (from + q) r z (omega arith) (omega arith) (to + i) (omega arith)
        ∙ moved_in xs to from q z (omega arith) (omega arith) i l))

    pub row_put-here : get_or (row_put from to q r v xs) (to + q) z ≡ v
    unfolding row_put
    row_put-here =
        either from to
        (λ up.
        let n = high-long in
        let m = length_moved high to from q (omega arith) (omega arith) in
        rw (lt-leb to from up) (get_or-set_same (moved high to from q) (to + q) v z (omega arith)))
        (λ down.
        let n = low-long in
        let m = length_moved low (to + q + 1) (from + q) r (omega arith) (omega arith) in
        rw (le-leb to from down) (get_or-set_same (moved low (to + q + 1) (from + q) r) (to + q) v z (omega arith)))

    pub row_put-high : (i : ℕ) → i < r → get_or (row_put from to q r v xs) (to + q + 1 + i) z ≡ get_or xs (from + q + i) z
    unfolding row_put
    row_put-high i l =
        let ne : to + q + 1 + i ≡ to + q → ⊥ = λ e. omega arith in
        either from to
        (λ up.
        let n = high-long in
        rw (lt-leb to from up)
        (get_or-set_other (moved high to from q) (to + q) (to + q + 1 + i) v z ne
        ∙ moved-above high to from q z (omega arith) (omega arith) (to + q + 1 + i) (omega arith)
        ∙ moved_in xs (to + q + 1) (from + q) r z (omega arith) (omega arith) i l))
        (λ down.
        let n = low-long in
        rw (le-leb to from down)
        (get_or-set_other (moved low (to + q + 1) (from + q) r) (to + q) (to + q + 1 + i) v z ne
        ∙ moved_in low (to + q + 1) (from + q) r z (omega arith) (omega arith) i l
        ∙ moved-above xs to from q z (omega arith) (omega arith) (from + q + i) (omega arith)))

-- ---- the held rows with one more

-- a table with one entry among another's, from any place on
among-from : {A : Type 0} (g f : ℕ → A) (e : A) (q r to a b : ℕ) → ((i : ℕ) → i < q → g (to + i) ≡ f (a + i)) → g (to + q) ≡ e → ((i : ℕ) → i < r → g (to + q + 1 + i) ≡ f (b + i)) → tabulate g to (q + suc r) ≡ tabulate f a q ++ e ∷ tabulate f b r
unfolding tabulate
among-from g f e q r to a b low here high =
    table-add g q to (suc r)
    ∙ (λ j. table_ext g f q to a low j ++ here j ∷ table_ext g f r (suc (to + q)) b (λ i l. let u : suc (to + q) + i ≡ to + q + 1 + i = omega arith in rw u (high i l)) j)

-- a row is its four elements
row_ext : (y m : Rows) (i j : ℕ) → get_or y.heights i 0 ≡ get_or m.heights j 0 → get_or y.marks i 0 ≡ get_or m.marks j 0 → get_or y.rates i 0 ≡ get_or m.rates j 0 → get_or y.sizes i 0 ≡ get_or m.sizes j 0 → row_at y i ≡ row_at m j
row_ext y m i j a b c d = λ t. entry (a t) (record { p10_sat_kvb = rate_of (b t) (c t); txstat_bytes = d t })

-- a rate as a mark and a number, and back
rate-back : (r : rust.Option ℕ) → rate_of (mark_of (given r)) (number_of (given r)) ≡ r
rate-back (Some n) = refl
rate-back None = refl

module _ (q h : ℕ) (b : HistoricalFeeBlock) (s : FeeHistory) (m : Rows) (p : Roomy q s (length m.heights) (length m.marks) (length m.rates) (length m.sizes)) where
  abbrev after : Stored
  after = hold_at q h b (stored s m)

  abbrev to : ℕ
  to = start_with s q

  abbrev behind : ℕ
  behind = s.count - q

  not_full : (s.start + s.count ≡ s.analog.capacity → ⊥) → s.start + s.count < s.analog.capacity
  not_full n = either (s.start + s.count) s.analog.capacity (λ l. l) (λ l. absurd (n (omega (arith, p.within))))

  pub start-room : to + s.count < s.analog.capacity
  unfolding start_with
  start-room = go (ltb q (s.count - q)) refl (eqb s.start 0) refl (eqb (s.start + s.count) s.analog.capacity) refl
    where
      go : (a : Bool) → ltb q (s.count - q) ≡ a → (c : Bool) → eqb s.start 0 ≡ c → (d : Bool) → eqb (s.start + s.count) s.analog.capacity ≡ d
          → cond a (cond c (free_of s - free_of s / 4 - 1) (s.start - 1)) (cond d (free_of s / 4) s.start) + s.count < s.analog.capacity
      go true u true v d w = omega (arith, p.room)
      go true u false v d w = let n = eqb-false s.start 0 v in omega (arith, p.within, p.room)
      go false u c v true w = omega (arith, p.room)
      go false u c v false w = not_full (eqb-false (s.start + s.count) s.analog.capacity w)

  -- each list reaches where the rows lie and will lie
  pub source : (n : ℕ) → s.analog.capacity ≤ n → s.start + q + behind ≤ n
  source n l = omega (arith, p.within, p.rank)

  pub target : (n : ℕ) → s.analog.capacity ≤ n → to + q + 1 + behind ≤ n
  target n l = omega (arith, start-room, p.rank)

  low-row : (i : ℕ) → i < q → row_at after.rows (to + i) ≡ row_at m (s.start + i)
  unfolding hold_at
  low-row i l =
      row_ext after.rows m (to + i) (s.start + i)
      (row_put-low m.heights s.start to q behind (source _ p.heights) (target _ p.heights) 0 h i l)
      (row_put-low m.marks s.start to q behind (source _ p.marks) (target _ p.marks) 0 (mark_of (hurdle_of b)) i l)
      (row_put-low m.rates s.start to q behind (source _ p.rates) (target _ p.rates) 0 (number_of (hurdle_of b)) i l)
      (row_put-low m.sizes s.start to q behind (source _ p.sizes) (target _ p.sizes) 0 b.txstat_bytes i l)

  new_row : row_at after.rows (to + q) ≡ entry h b
  unfolding hold_at
  new_row =
      let e = row_put-here m.heights s.start to q behind (source _ p.heights) (target _ p.heights) 0 h in
      let k = row_put-here m.marks s.start to q behind (source _ p.marks) (target _ p.marks) 0 (mark_of (hurdle_of b)) in
      let n = row_put-here m.rates s.start to q behind (source _ p.rates) (target _ p.rates) 0 (number_of (hurdle_of b)) in
      let z = row_put-here m.sizes s.start to q behind (source _ p.sizes) (target _ p.sizes) 0 b.txstat_bytes in
      (λ t. entry (e t) (record { p10_sat_kvb = rate_of (k t) (n t); txstat_bytes = z t }))
      ∙ (λ t. entry h (record { p10_sat_kvb = rate-back b.p10_sat_kvb t; txstat_bytes = b.txstat_bytes }))

  high-row : (i : ℕ) → i < behind → row_at after.rows (to + q + 1 + i) ≡ row_at m (s.start + q + i)
  unfolding hold_at
  high-row i l =
      row_ext after.rows m (to + q + 1 + i) (s.start + q + i)
      (row_put-high m.heights s.start to q behind (source _ p.heights) (target _ p.heights) 0 h i l)
      (row_put-high m.marks s.start to q behind (source _ p.marks) (target _ p.marks) 0 (mark_of (hurdle_of b)) i l)
      (row_put-high m.rates s.start to q behind (source _ p.rates) (target _ p.rates) 0 (number_of (hurdle_of b)) i l)
      (row_put-high m.sizes s.start to q behind (source _ p.sizes) (target _ p.sizes) 0 b.txstat_bytes i l)

  pub held-rows : held_rows after.rows after.state ≡ tabulate (row_at m) s.start q ++ entry h b ∷ tabulate (row_at m) (s.start + q) behind
  unfolding held_rows hold_at
  held-rows =
      let n : s.count + 1 ≡ q + suc behind = omega (arith, p.rank) in
      ap (tabulate (row_at after.rows) to) n
      ∙ among-from (row_at after.rows) (row_at m) (entry h b) q behind to s.start (s.start + q) low-row new_row high-row

absent-insert : (h : ℕ) (b : HistoricalFeeBlock) (s : FeeHistory) (m : Rows) → Ascends (held_rows m s) → is_held m.heights s h ≡ false
    → insert h b (held_rows m s) ≡ tabulate (row_at m) s.start (place_of m.heights s h - s.start) ++ entry h b ∷ tabulate (row_at m) (place_of m.heights s h) (s.start + s.count - place_of m.heights s h)
unfolding held_rows
absent-insert h b s m asc t =
    insert_absent (row_at m) h s.start s.count (place_of m.heights s h) asc (place_parts m s h asc) b (λ l e. is-at-false m.heights (s.start + s.count) h (place_of m.heights s h) t l e)

-- at the rank of an absent height it is the map's insert
pub hold-view : (h : ℕ) (b : HistoricalFeeBlock) (s : FeeHistory) (m : Rows) (q : ℕ) → Roomy q s (length m.heights) (length m.marks) (length m.rates) (length m.sizes) → Ascends (held_rows m s) → q ≡ place_of m.heights s h - s.start → is_held m.heights s h ≡ false
    → held_rows (hold_at q h b (stored s m)).rows (hold_at q h b (stored s m)).state ≡ insert h b (held_rows m s)
hold-view h b s m q p asc e t =
    let c = place_parts m s h asc in
    let u : s.start + q ≡ place_of m.heights s h = omega (arith, c.low) in
    let v : s.count - q ≡ s.start + s.count - place_of m.heights s h = omega (arith, c.low, c.high) in
    held-rows q h b s m p
    ∙ (λ j. tabulate (row_at m) s.start (e j) ++ entry h b ∷ tabulate (row_at m) (u j) (v j))
    ∙ sym (absent-insert h b s m asc t)
