-- `entries` and `recent_hashes`, which write lists of the caller. Definitions only.
use Rattle.std.specs.Prelude.{ℕ, ◌*◌, ◌≡◌, cond, List, [], ◌∷◌, ◌++◌, map, ltb, eqb, length, drop}
use Rattle.rbitcoin_mempool.specs.Counted.{Counted, counted_of}
use Rattle.rbitcoin_mempool.specs.Rates.{mark_of, number_of}
use Rattle.rbitcoin_mempool.specs.Windows.{or_else}
use Rattle.rbitcoin_net.specs.Map.{Entry}
use Rattle.rbitcoin_net.specs.History.{hurdle_of}
use Rattle.rbitcoin_net.specs.Lent.{Rows, Hashes, held_rows, held_hashes, state_refusal, rows_refusal, hashes_refusal}
use Rattle.rbitcoin_net.specs.declared.fee_history.HistoricalFeeBlock.{HistoricalFeeBlock}
use Rattle.rbitcoin_net.specs.declared.fee_history.FeeHistory.{FeeHistory}

-- ys at the front of xs, "a longer one keeps its rest"; xs as it was where there is a refusal
unfoldable pub wrote : ℕ → List ℕ → List ℕ → List ℕ
wrote refusal ys xs = cond (eqb refusal 0) (ys ++ drop (length ys) xs) xs

-- an entry's height, mark, number and bytes: 1 and the rate, or 0 and 0
abbrev pub key_of : {A : Type 0} → Entry A → ℕ
key_of e = e.key

abbrev pub mark_in : Entry HistoricalFeeBlock → ℕ
mark_in e = mark_of (hurdle_of e.value)

abbrev pub number_in : Entry HistoricalFeeBlock → ℕ
number_in e = number_of (hurdle_of e.value)

abbrev pub bytes_in : Entry HistoricalFeeBlock → ℕ
bytes_in e = e.value.txstat_bytes

-- `entries`: 1 for numbers and marks of unequal length, then the state's and the rows', then 5 for an output list shorter than its answer
unfoldable pub entries_refusal : FeeHistory → ℕ → ℕ → ℕ → ℕ → ℕ → ℕ → ℕ → ℕ → ℕ
entries_refusal s h m r z to-h to-m to-r to-z =
    or_else (cond (eqb to-r to-m) 0 1)
    (or_else (or_else (state_refusal s) (rows_refusal s.analog.capacity h m r z))
    (rows_refusal s.count to-h to-m to-r to-z))

abbrev pub entries_refusal_of : FeeHistory → Rows → Rows → ℕ
entries_refusal_of s m o = entries_refusal s (length m.heights) (length m.marks) (length m.rates) (length m.sizes) (length o.heights) (length o.marks) (length o.rates) (length o.sizes)

-- the answer r and the output lists q, of output lists o
pub record Entries (s : FeeHistory) (m o q : Rows) (r : Counted) : Type 0 where
  pub is : r ≡ counted_of (entries_refusal_of s m o) s.count
  pub heights : q.heights ≡ wrote (entries_refusal_of s m o) (map key_of (held_rows m s)) o.heights
  pub marks : q.marks ≡ wrote (entries_refusal_of s m o) (map mark_in (held_rows m s)) o.marks
  pub rates : q.rates ≡ wrote (entries_refusal_of s m o) (map number_in (held_rows m s)) o.rates
  pub sizes : q.sizes ≡ wrote (entries_refusal_of s m o) (map bytes_in (held_rows m s)) o.sizes

-- `recent_hashes`: n heights, and their hashes' bytes one after the other
unfoldable pub bytes_of : List (Entry (List ℕ)) → List ℕ
bytes_of [] = []
bytes_of (e ∷ es) = e.value ++ bytes_of es

unfoldable pub recent_refusal : FeeHistory → ℕ → ℕ → ℕ → ℕ → ℕ
recent_refusal s h b to-h to-b =
    or_else (or_else (state_refusal s) (hashes_refusal h b))
    (cond (ltb to-h s.hashes) 5 (cond (ltb to-b (32 * s.hashes)) 5 0))

abbrev pub recent_refusal_of : FeeHistory → Hashes → Hashes → ℕ
recent_refusal_of s z o = recent_refusal s (length z.heights) (length z.bytes) (length o.heights) (length o.bytes)

pub record RecentHashes (s : FeeHistory) (z o q : Hashes) (r : Counted) : Type 0 where
  pub is : r ≡ counted_of (recent_refusal_of s z o) s.hashes
  pub heights : q.heights ≡ wrote (recent_refusal_of s z o) (map key_of (held_hashes z s)) o.heights
  pub bytes : q.bytes ≡ wrote (recent_refusal_of s z o) (bytes_of (held_hashes z s)) o.bytes
