-- What a cut means: the view after it is the Rust's `truncate_above` of the view before. Assumes nothing.
use Prim.Native.Nat.{ℕ, zero, suc, ◌+◌, ◌-◌}
use mathlib.Core.Path.{◌≡◌, refl, sym, ◌∙◌, ap}
use mathlib.Core.Bool.{Bool, true, false, cond, not, ◌&&◌}
use mathlib.Core.List.{List, [], ◌∷◌}
use mathlib.Core.Option.{none, some}
use native.Mathlib.Omega.{arith}
use lib.Dec.{eqb}
use lib.Ieee.{Float}
use lib.ListN.{get_or}
use Rattle.num.specs.Word.{saturating_sub}
use Rattle.slices.specs.Lists.{tabulate}
use Rattle.std.specs.Prelude.{Some, None}
use Rattle.rbitcoin_mempool.specs.declared.fee_analog.history.AnalogHistory.{AnalogHistory}
use Rattle.rbitcoin_mempool.specs.Pairs.{pop_back}
use Rattle.rbitcoin_mempool.specs.Rates.{given, rate_at}
use Rattle.rbitcoin_mempool.specs.Reached.{SetUpAs as WindowsSetUpAs}
use Rattle.rbitcoin_mempool.specs.Windows.{windows, held_in, pop_back_of}
use Rattle.rbitcoin_mempool.proofs.Kept.{Good, pop-back_good}
use Rattle.rbitcoin_mempool.proofs.Views.{pop-back-held, pop-back-set-up}
use Rattle.rbitcoin_net.specs.declared.fee_history.HistoricalFeeBlock.{HistoricalFeeBlock}
use Rattle.rbitcoin_net.specs.declared.fee_history.FeeHistory.{FeeHistory}
use Rattle.rbitcoin_net.specs.Map.{Entry, Ascends, below, onward, is_some}
use Rattle.rbitcoin_net.specs.History.{History, set_blocks, set_total, set_hashes, set_hurdles, set_rates, forget, forget_all, next, truncate_above}
use Rattle.rbitcoin_net.specs.Lent.{Rows, Hashes, Lent, lent, block_at, row_at, held_rows, hash_at, hashes_in, kept_rates, windows_of, view}
use Rattle.rbitcoin_net.specs.Search.{place_of}
use Rattle.rbitcoin_net.specs.Hashes.{hash_list, hash_place}
use Rattle.rbitcoin_net.specs.Cuts.{with_sums, forget_row, forget_rows, cut_at, drop_from}
use Rattle.rbitcoin_net.proofs.Tables.{Parts, ascends_rising, below_table, onward_table}
use Rattle.rbitcoin_net.proofs.Search.{place_parts, bisect_parts}
use Rattle.rbitcoin_net.proofs.Search.{at as element}

-- ---- the Rust's side

module _ (pop : List ℕ → List ℕ) where
  set_forgets : (es : List (Entry HistoricalFeeBlock)) (bs : List (Entry HistoricalFeeBlock)) (x : History) → forget_all pop es (set_blocks bs (set_rates none x)) ≡ set_blocks bs (set_rates none (forget_all pop es x))
  unfolding forget_all forget
  set_forgets [] bs x = refl
  set_forgets (e ∷ es) bs x = set_forgets es bs (forget pop e.value x)

  forgets-hashes : (es : List (Entry HistoricalFeeBlock)) (x : History) → (forget_all pop es x).hashes ≡ x.hashes
  unfolding forget_all forget
  forgets-hashes [] x = refl
  forgets-hashes (e ∷ es) x = forgets-hashes es (forget pop e.value x)

-- what is left without the blocks and the hashes from height k on
abbrev pub without : ℕ → History → History
without k x = set_hashes (below k x.hashes) (set_blocks (below k x.blocks) (set_rates none (forget_all pop_back (onward k x.blocks) x)))

-- a cut forgets first, and sets the fields then
pub cut-is : (h : ℕ) (x : History) → truncate_above h x ≡ without (next h) x
unfolding truncate_above
cut-is h x =
    let bs = below (next h) x.blocks in
    let es = onward (next h) x.blocks in
    ap (λ (y : History). set_hashes (below (next h) y.hashes) y) (set_forgets pop_back es bs x)
    ∙ ap (λ (zs : List (Entry (List ℕ))). set_hashes (below (next h) zs) (set_blocks bs (set_rates none (forget_all pop_back es x)))) (forgets-hashes pop_back es x)

-- ---- the state's side

rated : (b : Bool) (n : ℕ) → is_some (given (cond b (Some n) None)) ≡ b
rated true n = refl
rated false n = refl

module _ (m : Rows) (z : Hashes) (us : List ℕ) (bs : List Float) (ds : List ℕ) where
  abbrev memory : Lent
  memory = lent m z us bs ds

  -- other windows of the same targets, and another total
  view_sums : (a : AnalogHistory) (total : ℕ) (hs : List ℕ) (s : FeeHistory) → a.tracked ≡ s.analog.tracked → a.targets ≡ s.analog.targets → held_in (windows a us bs ds) ≡ hs
      → view (with_sums a total s) memory ≡ set_hurdles hs (set_total total (view s memory))
  unfolding view held_rows kept_rates
  view_sums a total hs s e d h = λ i. record {
    blocks = tabulate (row_at m) s.start s.count;
    total = total;
    budget = s.budget;
    targets = tabulate (λ k. get_or (d i) k 0) 0 (e i);
    hashes = hashes_in s.hashes z;
    hurdles = h i;
    stale = s.analog_stale;
    rates = cond s.kept (some (tabulate (rate_at s.kept_numbers s.kept_marks) 0 (e i))) none;
  }

  -- a forgotten row, at either end
  pub forget-view-by : (pop_of : AnalogHistory → AnalogHistory) (pop : List ℕ → List ℕ) (i : ℕ) (s : FeeHistory) → WindowsSetUpAs s.analog (pop_of s.analog)
      → held_in (windows (pop_of s.analog) us bs ds) ≡ pop (held_in (windows_of s memory)) → view (forget_row pop_of (get_or m.marks i 0) (get_or m.sizes i 0) s) memory ≡ forget pop (block_at m i) (view s memory)
  unfolding view forget_row forget
  forget-view-by pop_of pop i s u h =
      go (eqb (get_or m.marks i 0) 1 && not s.analog_stale)
      ∙ ap (λ (t : Bool). set_hurdles (cond (t && not s.analog_stale) (pop (held_in (windows_of s memory))) (held_in (windows_of s memory))) (set_total total (view s memory))) (sym (rated (eqb (get_or m.marks i 0) 1) (get_or m.rates i 0)))
    where
      total : ℕ
      total = saturating_sub s.txstat_bytes (get_or m.sizes i 0)

      go : (b : Bool) → view (with_sums (cond b (pop_of s.analog) s.analog) total s) memory ≡ set_hurdles (cond b (pop (held_in (windows_of s memory))) (held_in (windows_of s memory))) (set_total total (view s memory))
      go true = view_sums (pop_of s.analog) total (pop (held_in (windows_of s memory))) s u.same_tracked u.same_targets h
      go false = view_sums s.analog total (held_in (windows_of s memory)) s refl refl refl

  forget-view : (i : ℕ) (s : FeeHistory) → Good (windows_of s memory) → view (forget_row pop_back_of (get_or m.marks i 0) (get_or m.sizes i 0) s) memory ≡ forget pop_back (block_at m i) (view s memory)
  forget-view i s g = forget-view-by pop_back_of pop_back i s (pop-back-set-up s.analog) (pop-back-held (windows_of s memory) g.valid)

  forget_good : (mark size : ℕ) (s : FeeHistory) → Good (windows_of s memory) → Good (windows_of (forget_row pop_back_of mark size s) memory)
  unfolding forget_row
  forget_good mark size s g = go (eqb mark 1 && not s.analog_stale)
    where
      go : (b : Bool) → Good (windows (cond b (pop_back_of s.analog) s.analog) us bs ds)
      go true = pop-back_good (windows_of s memory) g
      go false = g

  pub forgets_good : (n i : ℕ) (s : FeeHistory) → Good (windows_of s memory) → Good (windows_of (forget_rows pop_back_of m i n s) memory)
  unfolding forget_rows
  forgets_good zero i s g = g
  forgets_good (suc n) i s g = forgets_good n (suc i) (forget_row pop_back_of (get_or m.marks i 0) (get_or m.sizes i 0) s) (forget_good (get_or m.marks i 0) (get_or m.sizes i 0) s g)

  pub forgets-view : (n i : ℕ) (s : FeeHistory) → Good (windows_of s memory) → view (forget_rows pop_back_of m i n s) memory ≡ forget_all pop_back (tabulate (row_at m) i n) (view s memory)
  unfolding forget_rows forget_all tabulate
  forgets-view zero i s g = refl
  forgets-view (suc n) i s g =
      forgets-view n (suc i) (forget_row pop_back_of (get_or m.marks i 0) (get_or m.sizes i 0) s) (forget_good (get_or m.marks i 0) (get_or m.sizes i 0) s g)
      ∙ ap (forget_all pop_back (tabulate (row_at m) (suc i) n)) (forget-view i s g)

  -- the kept hashes below a height
  pub hash_parts : (h n : ℕ) → Ascends (hashes_in n z) → Parts (element z.heights) h 0 n (hash_place h (hash_list n z))
  unfolding hash_place hashes_in
  hash_parts h n asc = bisect_parts z.heights h n 0 n (λ i j a b c. ascends_rising (hash_at z) n 0 asc i j a b (omega arith)) (omega arith) (omega arith)

  pub hashes-below : (h n : ℕ) → Ascends (hashes_in n z) → hashes_in (hash_place h (hash_list n z)) z ≡ below h (hashes_in n z)
  unfolding hashes_in
  hashes-below h n asc =
      let p = hash_parts h n asc in
      let q = hash_place h (hash_list n z) in
      let e : q - 0 ≡ q = omega arith in
      let r : Parts (λ i. (hash_at z i).key) h 0 (0 + n) q = record { low = p.low; high = omega (arith, p.high); before = p.before; behind = λ i l o. p.behind i l (omega arith) } in
      sym (below_table (hash_at z) h 0 n q r ∙ ap (tabulate (hash_at z) 0) e)

  module _ (k : ℕ) (s : FeeHistory) (good : Good (windows_of s memory)) (asc : Ascends (held_rows m s)) (hasc : Ascends (hashes_in s.hashes z)) where
    abbrev place : ℕ
    place = place_of m.heights s k

    parts : Parts (element m.heights) k s.start (s.start + s.count) place
    parts = place_parts m s k asc

    abbrev dropped : ℕ
    dropped = s.start + s.count - place

    fields : view (drop_from k m z s) memory ≡ set_hashes (hashes_in (hash_place k (hash_list s.hashes z)) z) (set_blocks (tabulate (row_at m) s.start (place - s.start)) (set_rates none (view (forget_rows pop_back_of m place dropped s) memory)))
    unfolding view drop_from cut_at held_rows kept_rates
    fields = refl

    blocks-below : tabulate (row_at m) s.start (place - s.start) ≡ below k (held_rows m s)
    unfolding held_rows
    blocks-below = sym (below_table (row_at m) k s.start s.count place parts)

    blocks-onward : tabulate (row_at m) place dropped ≡ onward k (held_rows m s)
    unfolding held_rows
    blocks-onward = sym (onward_table (row_at m) k s.start s.count place parts)

    pub cut-view : view (drop_from k m z s) memory ≡ without k (view s memory)
    unfolding view
    cut-view =
        fields
        ∙ ap (λ (x : History). set_hashes (hashes_in (hash_place k (hash_list s.hashes z)) z) (set_blocks (tabulate (row_at m) s.start (place - s.start)) (set_rates none x))) (forgets-view dropped place s good)
        ∙ (λ i. set_hashes (hashes-below k s.hashes hasc i) (set_blocks (blocks-below i) (set_rates none (forget_all pop_back (blocks-onward i) (view s memory)))))
