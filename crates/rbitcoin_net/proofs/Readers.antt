-- What `entries` and `recent_hashes` write is what is held. Assumes nothing.
use Prim.Native.Nat.{ℕ, zero, suc, ◌+◌, ◌-◌, ◌*◌, ◌≤◌}
use mathlib.Core.Path.{◌≡◌, refl, sym, ◌∙◌, ap}
use mathlib.Core.Bool.{Bool, true, false, cond}
use mathlib.Core.List.{List, ◌++◌, map}
use mathlib.Core.Option.{Option, some, none}
use Rattle.std.proofs.lemmas.List.{length-map}
use native.Mathlib.Omega.{arith}
use lib.Dec.{eqb}
use lib.ListN.{length, get_or, take, drop}
use borrow.Author.Tests.{eq-eqb, ne_eqb, le-leb}
use Rattle.slices.specs.Lists.{tabulate, copy_front}
use Rattle.slices.proofs.Lists.{tabulate-length, tabulate-same, map_table, part_table}
use Rattle.std.specs.Prelude.{Some, None}
use Rattle.rbitcoin_mempool.specs.Counted.{count, refused}
use Rattle.std.specs.declared.option.Option as rust
use Rattle.rbitcoin_mempool.specs.Rates.{given, marked, rate_at, mark_of, number_of, marks_of, numbers_of}
use Rattle.rbitcoin_mempool.proofs.Scans.{count-refused, count-given}
use Rattle.rbitcoin_net.specs.declared.fee_history.FeeHistory.{FeeHistory}
use Rattle.rbitcoin_net.specs.declared.fee_history.HistoricalFeeBlock.{HistoricalFeeBlock}
use Rattle.rbitcoin_net.specs.Map.{Entry}
use Rattle.rbitcoin_net.specs.History.{hurdle_of}
use Rattle.rbitcoin_net.specs.Lent.{Rows, Hashes, rate_of, row_at, held_rows, hash_at, hashes_in, held_hashes}
use Rattle.rbitcoin_net.specs.Readers.{wrote, key_of, mark_in, number_in, bytes_in, entries_refusal_of, Entries, bytes_of, recent_refusal_of, RecentHashes}
use Rattle.rbitcoin_net.proofs.Tables.{table-add}

-- nothing is written where there is a refusal, and a table of n places where there is none
pub wrote_none : (k : ℕ) (ys xs : List ℕ) → (k ≡ 0 → ⊥) → xs ≡ wrote k ys xs
unfolding wrote
wrote_none k ys xs n = sym (rw (ne_eqb k 0 n))

pub wrote_all : (k n : ℕ) (zs ys xs : List ℕ) → k ≡ 0 → zs ≡ ys → length ys ≡ n → zs ++ drop n xs ≡ wrote k ys xs
unfolding wrote
wrote_all k n zs ys xs z e l = ap (λ v. v ++ drop n xs) e ∙ ap (λ j. ys ++ drop j xs) (sym l) ∙ sym (rw (eq-eqb k 0 z))

-- a part that fits, copied to the front
pub part-written : (from xs : List ℕ) (a n e : ℕ) → e ≡ a + n → e ≤ length from → n ≤ length xs → copy_front xs (take (e - a) (drop a from)) ≡ tabulate (λ i. get_or from i 0) a n ++ drop n xs
unfolding copy_front
part-written from xs a n e h f g =
    let d : e - a ≡ n = omega arith in
    let p : take (e - a) (drop a from) ≡ tabulate (λ i. get_or from i 0) a n = ap (λ k. take k (drop a from)) d ∙ part_table 0 from a n (omega arith) in
    let l : length (tabulate (λ i. get_or from i 0) a n) ≡ n = tabulate-length (λ i. get_or from i 0) a n in
    rw p (rw l (rw (le-leb n (length xs) g)))

-- a stored rate, by either definition
pub given_rate : (mark number : ℕ) → given (rate_of mark number) ≡ marked number mark
given_rate mark number = go (eqb mark 1)
  where
    go : (b : Bool) → given (cond b (Some number) None) ≡ cond b (some number) none
    go true = refl
    go false = refl

-- a rate that was read is the stored one
abbrev back : Option ℕ → rust.Option ℕ
back (some r) = Some r
back none = None

back_given : (r : rust.Option ℕ) → back (given r) ≡ r
back_given (Some r) = refl
back_given None = refl

pub rate_is : (r : rust.Option ℕ) (mark number : ℕ) → given r ≡ marked number mark → r ≡ rate_of mark number
rate_is r mark number e = sym (back_given r) ∙ ap back (e ∙ sym (given_rate mark number)) ∙ back_given (rate_of mark number)

module _ (s : FeeHistory) (m o : Rows) where
  -- the columns of the held rows
  keys_are : tabulate (λ i. get_or m.heights i 0) s.start s.count ≡ map key_of (held_rows m s)
  unfolding held_rows
  keys_are = sym (map_table key_of (row_at m) s.start s.count)

  sizes_are : tabulate (λ i. get_or m.sizes i 0) s.start s.count ≡ map bytes_in (held_rows m s)
  unfolding held_rows
  sizes_are = sym (map_table bytes_in (row_at m) s.start s.count)

  rates_are : (f : Option ℕ → ℕ) → map f (tabulate (rate_at m.rates m.marks) s.start s.count) ≡ map (λ e. f (hurdle_of e.value)) (held_rows m s)
  unfolding held_rows
  rates_are f =
      map_table f (rate_at m.rates m.marks) s.start s.count
      ∙ tabulate-same (λ i. f (rate_at m.rates m.marks i)) (λ i. f (hurdle_of (row_at m i).value)) s.start s.count (λ i l h. ap f (sym (given_rate (get_or m.marks i 0) (get_or m.rates i 0))))
      ∙ sym (map_table (λ e. f (hurdle_of e.value)) (row_at m) s.start s.count)

  column : (f : Entry HistoricalFeeBlock → ℕ) → length (map f (held_rows m s)) ≡ s.count
  unfolding held_rows
  column f = length-map (held_rows m s) f ∙ tabulate-length (row_at m) s.start s.count

  pub entries-refused : (k : ℕ) → k ≡ entries_refusal_of s m o → (k ≡ 0 → ⊥) → Entries s m o o (refused k)
  entries-refused k e n =
      let d : entries_refusal_of s m o ≡ 0 → ⊥ = λ z. n (e ∙ z) in
      record {
        is = ap refused e ∙ count-refused (entries_refusal_of s m o) s.count d;
        heights = wrote_none (entries_refusal_of s m o) _ o.heights d;
        marks = wrote_none (entries_refusal_of s m o) _ o.marks d;
        rates = wrote_none (entries_refusal_of s m o) _ o.rates d;
        sizes = wrote_none (entries_refusal_of s m o) _ o.sizes d;
      }

  -- the four columns written
  pub entries-written : (k : ℕ) (q : Rows) → k ≡ entries_refusal_of s m o → k ≡ 0
      → q.heights ≡ tabulate (λ i. get_or m.heights i 0) s.start s.count ++ drop s.count o.heights
      → q.marks ≡ marks_of (tabulate (rate_at m.rates m.marks) s.start s.count) ++ drop s.count o.marks
      → q.rates ≡ numbers_of (tabulate (rate_at m.rates m.marks) s.start s.count) ++ drop s.count o.rates
      → q.sizes ≡ tabulate (λ i. get_or m.sizes i 0) s.start s.count ++ drop s.count o.sizes
      → Entries s m o q (count s.count)
  entries-written k q e z h a r b =
      let d : entries_refusal_of s m o ≡ 0 = sym e ∙ z in
      record {
        is = count-given (entries_refusal_of s m o) s.count s.count d refl;
        heights = h ∙ wrote_all (entries_refusal_of s m o) s.count _ _ o.heights d keys_are (column key_of);
        marks = a ∙ wrote_all (entries_refusal_of s m o) s.count _ _ o.marks d (rates_are mark_of) (column mark_in);
        rates = r ∙ wrote_all (entries_refusal_of s m o) s.count _ _ o.rates d (rates_are number_of) (column number_in);
        sizes = b ∙ wrote_all (entries_refusal_of s m o) s.count _ _ o.sizes d sizes_are (column bytes_in);
      }

-- ---- `recent_hashes`

-- the hashes' bytes, one hash after the other, are the list's
bytes_run : (z : Hashes) (n a : ℕ) → bytes_of (tabulate (hash_at z) a n) ≡ tabulate (λ j. get_or z.bytes j 0) (32 * a) (32 * n)
unfolding tabulate bytes_of
bytes_run z zero a = refl
bytes_run z (suc n) a =
    let g : ℕ → ℕ = λ j. get_or z.bytes j 0 in
    let e : 32 * suc n ≡ 32 + 32 * n = omega arith in
    let d : 32 * suc a ≡ 32 * a + 32 = omega arith in
    ap (λ l. tabulate g (32 * a) 32 ++ l) (bytes_run z n (suc a) ∙ ap (λ k. tabulate g k (32 * n)) d)
    ∙ sym (table-add g 32 (32 * a) (32 * n))
    ∙ ap (tabulate g (32 * a)) (sym e)

-- a part from the first place on, copied to the front
pub front-written : (from xs : List ℕ) (n : ℕ) → n ≤ length from → n ≤ length xs → copy_front xs (take n from) ≡ tabulate (λ i. get_or from i 0) 0 n ++ drop n xs
front-written from xs n f g = let e : n - 0 ≡ n = omega arith in ap (λ k. copy_front xs (take k from)) (sym e) ∙ part-written from xs 0 n n (omega arith) f g

module _ (s : FeeHistory) (z o : Hashes) where
  heights_are : tabulate (λ i. get_or z.heights i 0) 0 s.hashes ≡ map key_of (held_hashes z s)
  unfolding hashes_in
  heights_are = sym (map_table key_of (hash_at z) 0 s.hashes)

  bytes_are : tabulate (λ i. get_or z.bytes i 0) 0 (32 * s.hashes) ≡ bytes_of (held_hashes z s)
  unfolding hashes_in
  bytes_are = sym (bytes_run z s.hashes 0)

  pub recent-refused : (k : ℕ) → k ≡ recent_refusal_of s z o → (k ≡ 0 → ⊥) → RecentHashes s z o o (refused k)
  recent-refused k e n =
      let d : recent_refusal_of s z o ≡ 0 → ⊥ = λ y. n (e ∙ y) in
      record {
        is = ap refused e ∙ count-refused (recent_refusal_of s z o) s.hashes d;
        heights = wrote_none (recent_refusal_of s z o) _ o.heights d;
        bytes = wrote_none (recent_refusal_of s z o) _ o.bytes d;
      }

  pub recent-written : (k : ℕ) (q : Hashes) → k ≡ recent_refusal_of s z o → k ≡ 0
      → q.heights ≡ tabulate (λ i. get_or z.heights i 0) 0 s.hashes ++ drop s.hashes o.heights
      → q.bytes ≡ tabulate (λ i. get_or z.bytes i 0) 0 (32 * s.hashes) ++ drop (32 * s.hashes) o.bytes
      → RecentHashes s z o q (count s.hashes)
  recent-written k q e y h b =
      let d : recent_refusal_of s z o ≡ 0 = sym e ∙ y in
      record {
        is = count-given (recent_refusal_of s z o) s.hashes s.hashes d refl;
        heights = h ∙ wrote_all (recent_refusal_of s z o) s.hashes _ _ o.heights d heights_are (ap length (sym heights_are) ∙ tabulate-length _ 0 s.hashes);
        bytes = b ∙ wrote_all (recent_refusal_of s z o) (32 * s.hashes) _ _ o.bytes d bytes_are (ap length (sym bytes_are) ∙ tabulate-length _ 0 (32 * s.hashes));
      }
