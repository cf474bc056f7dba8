-- The definitions at what is easy to get wrong: each is computed. Assumes nothing.
use Prim.Native.Nat.{ℕ, ◌+◌, ◌-◌, ◌^◌}
use mathlib.Core.Path.{◌≡◌, refl}
use mathlib.Core.Bool.{Bool, true, false}
use mathlib.Core.List.{List, [], ◌∷◌}
use mathlib.Core.Option.{Option, none, some}
use Rattle.slices.specs.Lists.{tabulate}
use Rattle.std.specs.Prelude.{Some, None}
use Rattle.rbitcoin_net.specs.declared.fee_history.HistoricalFeeBlock.{HistoricalFeeBlock}
use Rattle.rbitcoin_net.specs.Map.{Entry, entry, retain, below, above, onward, get, remove, insert, last_key}
use Rattle.rbitcoin_net.specs.History.{History, new, forget, forget_all, next, truncate_above, newest, evict_one, evict_blocks, evict, hold, insert_of, insert_if_absent_of, hurdles_of, rebuilt}

-- a block of n bytes, with a rate and without
abbrev rated : ℕ → ℕ → HistoricalFeeBlock
rated r n = record { p10_sat_kvb = Some r; txstat_bytes = n }

abbrev blank : ℕ → HistoricalFeeBlock
blank n = record { p10_sat_kvb = None; txstat_bytes = n }

-- a history of a budget of 1,000 with these blocks, total, hurdles, mark and kept rates
abbrev over : List (Entry HistoricalFeeBlock) → ℕ → List ℕ → Bool → Option (List (Option ℕ)) → History
over bs total hs stale rs = record { blocks = bs; total = total; budget = 1000; targets = []; hashes = []; hurdles = hs; stale = stale; rates = rs }

abbrev ends : List (Entry HistoricalFeeBlock)
ends = entry 10 (blank 10) ∷ entry 20 (rated 5 10) ∷ entry 30 (blank 10) ∷ []

-- a preload in the middle with a missing rate does not set the stale mark
pub middle-missing : insert_if_absent_of 25 (blank 10) none (over ends 30 (5 ∷ []) false none)
    ≡ over (entry 10 (blank 10) ∷ entry 20 (rated 5 10) ∷ entry 25 (blank 10) ∷ entry 30 (blank 10) ∷ []) 40 (5 ∷ []) false none
unfolding retain below above get insert last_key evict_blocks evict hold insert_if_absent_of
middle-missing = refl

-- the middle is judged by all held heights: behind every rated one, and still in the middle
pub middle-rated : insert_if_absent_of 25 (rated 7 10) none (over ends 30 (5 ∷ []) false none)
    ≡ over (entry 10 (blank 10) ∷ entry 20 (rated 5 10) ∷ entry 25 (rated 7 10) ∷ entry 30 (blank 10) ∷ []) 40 (5 ∷ []) true none
unfolding retain below above get insert last_key evict_blocks evict hold insert_if_absent_of
middle-rated = refl

-- at either end a rate is pushed there
pub front-rated : (insert_if_absent_of 9 (rated 7 10) none (over ends 30 (5 ∷ []) false none)).hurdles ≡ 7 ∷ 5 ∷ []
unfolding retain below above get insert last_key evict_blocks evict hold insert_if_absent_of
front-rated = refl

pub back-rated : (insert_if_absent_of 31 (rated 7 10) none (over ends 30 (5 ∷ []) false none)).hurdles ≡ 5 ∷ 7 ∷ []
unfolding retain below above get insert last_key evict_blocks evict hold insert_if_absent_of
back-rated = refl

-- while stale a cut, a connect and an eviction touch no hurdle
pub stale-cut : truncate_above 10 (over ends 30 (5 ∷ []) true none) ≡ over (entry 10 (blank 10) ∷ []) 10 (5 ∷ []) true none
unfolding retain below onward forget forget_all next truncate_above
stale-cut = refl

pub stale-connect : insert_of 20 (rated 7 10) none (over ends 30 (5 ∷ []) true none)
    ≡ over (entry 10 (blank 10) ∷ entry 20 (rated 7 10) ∷ []) 20 (5 ∷ []) true none
unfolding retain below above onward get remove insert forget forget_all next truncate_above evict_blocks evict hold insert_of
stale-connect = refl

pub stale_eviction : insert_of 31 (rated 7 990) none (over ends 30 (5 ∷ []) true none)
    ≡ over (entry 30 (blank 10) ∷ entry 31 (rated 7 990) ∷ []) 1000 (5 ∷ []) true none
unfolding retain below above onward get remove insert forget forget_all next truncate_above evict_one evict_blocks evict hold insert_of
stale_eviction = refl

-- not stale, the same connects pop and push
pub fresh-connect : (insert_of 20 (rated 7 10) none (over ends 30 (5 ∷ []) false none)).hurdles ≡ 7 ∷ []
unfolding retain below above onward get remove insert forget forget_all next truncate_above evict_blocks evict hold insert_of
fresh-connect = refl

pub fresh_eviction : (insert_of 31 (rated 7 990) none (over ends 30 (5 ∷ []) false none)).hurdles ≡ 7 ∷ []
unfolding retain below above onward get remove insert forget forget_all next truncate_above evict_one evict_blocks evict hold insert_of
fresh_eviction = refl

-- a preload of a held height keeps the kept rates; a cut clears them, one that cuts nothing too
pub held-preload : insert_if_absent_of 20 (rated 9 99) none (over ends 30 (5 ∷ []) false (some [])) ≡ over ends 30 (5 ∷ []) false (some [])
unfolding get insert_if_absent_of
held-preload = refl

pub cut_clears : truncate_above 30 (over ends 30 (5 ∷ []) false (some [])) ≡ over ends 30 (5 ∷ []) false none
unfolding retain below onward forget_all next truncate_above
cut_clears = refl

-- 144 hashes from height 100 on
abbrev hash_entry : ℕ → Entry (List ℕ)
hash_entry i = entry (i + 100) (i ∷ [])

abbrev full : History
full = record { blocks = []; total = 0; budget = 1000; targets = []; hashes = tabulate hash_entry 0 144; hurdles = []; stale = false; rates = none }

-- of a lower height the block is kept and the hash is not
pub low_hash : insert_if_absent_of 50 (blank 10) (some (7 ∷ [])) full
    ≡ record { blocks = entry 50 (blank 10) ∷ []; total = 10; budget = 1000; targets = []; hashes = tabulate hash_entry 0 144; hurdles = []; stale = false; rates = none }
unfolding tabulate retain below above get insert last_key newest evict_blocks evict hold insert_if_absent_of
low_hash = refl

-- of a higher one the oldest goes
pub high_hash : (insert_if_absent_of 244 (blank 10) (some (144 ∷ [])) full).hashes ≡ tabulate hash_entry 1 144
unfolding tabulate retain below above get insert last_key newest evict_blocks evict hold insert_if_absent_of
high_hash = refl

abbrev one : History
one = record { blocks = entry 10 (blank 10) ∷ []; total = 10; budget = 1000; targets = []; hashes = entry 10 (7 ∷ []) ∷ []; hurdles = []; stale = false; rates = none }

-- a connect without a hash removes the old one of that height; an eviction removes the block's
pub hash_removed : (insert_of 10 (blank 20) none one).hashes ≡ []
unfolding retain below above onward get remove insert forget forget_all next truncate_above evict_blocks evict hold insert_of
hash_removed = refl

pub hash_evicted : insert_of 11 (blank 1000) (some (8 ∷ [])) one
    ≡ record { blocks = entry 11 (blank 1000) ∷ []; total = 1000; budget = 1000; targets = []; hashes = entry 11 (8 ∷ []) ∷ []; hurdles = []; stale = false; rates = none }
unfolding retain below above onward get remove insert forget forget_all next truncate_above newest evict_one evict_blocks evict hold insert_of
hash_evicted = refl

-- eviction goes by the kept total: it saturates at 2^64 - 1, the first block goes, and the second stays, since the total is then below the budget
pub saturated : insert_of 2 (blank (2 ^ 64 - 1)) none (insert_of 1 (blank 10) none (new (2 ^ 64 - 2) []))
    ≡ record { blocks = entry 2 (blank (2 ^ 64 - 1)) ∷ []; total = 2 ^ 64 - 11; budget = 2 ^ 64 - 2; targets = []; hashes = []; hurdles = []; stale = false; rates = none }
unfolding retain below above onward get remove insert forget forget_all next truncate_above evict_one evict_blocks evict hold insert_of
saturated = refl

-- a block above the budget, put into an empty store, is evicted as it is stored, with its hash and its hurdle
pub evicts_itself : insert_of 5 (rated 3 8) (some (1 ∷ [])) (new 7 []) ≡ new 7 []
unfolding retain below above onward get remove insert forget forget_all next truncate_above newest evict_one evict_blocks evict hold insert_of
evicts_itself = refl

-- `truncate_above(4294967295)` drops that height itself, and one less keeps its own
pub cut_of_the_largest : truncate_above 4294967295 (over (entry 4294967294 (blank 1) ∷ entry 4294967295 (blank 2) ∷ []) 3 [] false none) ≡ over (entry 4294967294 (blank 1) ∷ []) 1 [] false none
unfolding retain below onward forget forget_all next truncate_above
cut_of_the_largest = refl

pub cut-below_the_largest : truncate_above 4294967294 (over (entry 4294967294 (blank 1) ∷ entry 4294967295 (blank 2) ∷ []) 3 [] false none) ≡ over (entry 4294967294 (blank 1) ∷ []) 1 [] false none
unfolding retain below onward forget forget_all next truncate_above
cut-below_the_largest = refl

-- a rebuild takes the rates in height order, and ends the stale mark
pub rebuilds : rebuilt (over (entry 10 (rated 1 1) ∷ entry 20 (blank 1) ∷ entry 30 (rated 3 1) ∷ []) 3 [] true none)
    ≡ over (entry 10 (rated 1 1) ∷ entry 20 (blank 1) ∷ entry 30 (rated 3 1) ∷ []) 3 (1 ∷ 3 ∷ []) false none
unfolding hurdles_of rebuilt
rebuilds = refl
