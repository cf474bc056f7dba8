-- The Rust's history, and its functions, after fee_history.rs. Each definition has the Rust's lines in the Rust's order; only the test for a held height of `insert_if_absent` is written last. Definitions only.
use Rattle.std.specs.Prelude.{ℕ, ◌+◌, ◌-◌, ◌^◌, min, Bool, true, false, cond, not, ◌&&◌, List, [], ◌∷◌, map, leb, ltb, length, drop, Float}
use Rattle.std.proofs.Math.Option.{Option, none, some}
use Rattle.std.specs.Float.{binary64}
use Rattle.std.specs.Float.Ieee.{round}
use Rattle.num.specs.Word.{saturating_add, saturating_sub}
use Rattle.rbitcoin_mempool.specs.Answer.{Answer, rate, refusal}
use Rattle.rbitcoin_mempool.specs.Answer.{none as nothing}
use Rattle.rbitcoin_mempool.specs.Rates.{given}
use Rattle.rbitcoin_mempool.specs.Pairs.{push_back, push_front, pop_back, pop_front, pairs_of}
use Rattle.rbitcoin_mempool.specs.Scan.{rate_among}
use Rattle.rbitcoin_net.specs.Map.{Entry, below, onward, get, contains_key, is_some, remove, insert, first_key, last_key}
use Rattle.rbitcoin_net.specs.declared.fee_history.HistoricalFeeBlock.{HistoricalFeeBlock}

-- `blocks`, `txstat_bytes`, `budget`, `targets`, `hashes`, `analog`, `analog_stale`, `rates`. The windows are their hurdles: the pairs are those of the hurdles. Kept rates are in tracked order, where the Rust has a map by target.
pub record History : Type 0 where
  pub blocks : List (Entry HistoricalFeeBlock)
  pub total : ℕ
  pub budget : ℕ
  pub targets : List ℕ
  pub hashes : List (Entry (List ℕ))
  pub hurdles : List ℕ
  pub stale : Bool
  pub rates : Option (List (Option ℕ))

-- one field set
abbrev pub set_blocks : List (Entry HistoricalFeeBlock) → History → History
set_blocks bs x = record { blocks = bs; total = x.total; budget = x.budget; targets = x.targets; hashes = x.hashes; hurdles = x.hurdles; stale = x.stale; rates = x.rates }

abbrev pub set_total : ℕ → History → History
set_total t x = record { blocks = x.blocks; total = t; budget = x.budget; targets = x.targets; hashes = x.hashes; hurdles = x.hurdles; stale = x.stale; rates = x.rates }

abbrev pub set_hashes : List (Entry (List ℕ)) → History → History
set_hashes zs x = record { blocks = x.blocks; total = x.total; budget = x.budget; targets = x.targets; hashes = zs; hurdles = x.hurdles; stale = x.stale; rates = x.rates }

abbrev pub set_hurdles : List ℕ → History → History
set_hurdles hs x = record { blocks = x.blocks; total = x.total; budget = x.budget; targets = x.targets; hashes = x.hashes; hurdles = hs; stale = x.stale; rates = x.rates }

abbrev pub set_stale : Bool → History → History
set_stale b x = record { blocks = x.blocks; total = x.total; budget = x.budget; targets = x.targets; hashes = x.hashes; hurdles = x.hurdles; stale = b; rates = x.rates }

abbrev pub set_rates : Option (List (Option ℕ)) → History → History
set_rates rs x = record { blocks = x.blocks; total = x.total; budget = x.budget; targets = x.targets; hashes = x.hashes; hurdles = x.hurdles; stale = x.stale; rates = rs }

-- `new`
abbrev pub new : ℕ → List ℕ → History
new budget targets = record { blocks = []; total = 0; budget = budget; targets = targets; hashes = []; hurdles = []; stale = false; rates = none }

-- `p10_sat_kvb`: the rate of a block, which is its hurdle
abbrev pub hurdle_of : HistoricalFeeBlock → Option ℕ
hurdle_of b = given b.p10_sat_kvb

-- `txstat_bytes.saturating_sub(old.txstat_bytes)`, `if old.p10_sat_kvb.is_some() && !analog_stale { analog.pop_..() }`
unfoldable pub forget : (List ℕ → List ℕ) → HistoricalFeeBlock → History → History
forget pop old x =
    set_hurdles (cond (is_some (hurdle_of old) && not x.stale) (pop x.hurdles) x.hurdles)
    (set_total (saturating_sub x.total old.txstat_bytes) x)

-- `for old in above.values()`
unfoldable pub forget_all : (List ℕ → List ℕ) → List (Entry HistoricalFeeBlock) → History → History
forget_all pop [] x = x
forget_all pop (e ∷ es) x = forget_all pop es (forget pop e.value x)

-- `height.saturating_add(1)` of a u32
unfoldable pub next : ℕ → ℕ
next h = min (h + 1) (2 ^ 32 - 1)

-- `truncate_above`
unfoldable pub truncate_above : ℕ → History → History
truncate_above h x =
    let y = set_blocks (below (next h) x.blocks) (set_rates none x) in
    let z = forget_all pop_back (onward (next h) x.blocks) y in
    set_hashes (below (next h) z.hashes) z

-- `note_hash`: `while self.hashes.len() > RECENT_HASHES { self.hashes.pop_first(); }`
unfoldable pub newest : {A : Type 0} → List A → List A
newest xs = drop (length xs - 144) xs

abbrev pub note_hash : ℕ → Option (List ℕ) → History → History
note_hash h none x = x
note_hash h (some z) x = set_hashes (newest (insert h z x.hashes)) x

-- `evict`: a turn of its loop, and the loop over what `pop_first` finds
unfoldable pub evict_one : Entry HistoricalFeeBlock → History → History
evict_one e x =
    let y = forget pop_front e.value x in
    set_hashes (remove e.key y.hashes) y

unfoldable pub evict_blocks : List (Entry HistoricalFeeBlock) → History → History
evict_blocks [] x = cond (ltb x.budget x.total) (set_total 0 (set_blocks [] x)) (set_blocks [] x)
evict_blocks (e ∷ es) x = cond (ltb x.budget x.total) (evict_blocks es (evict_one e x)) (set_blocks (e ∷ es) x)

unfoldable pub evict : History → History
evict x = evict_blocks x.blocks (set_rates none x)

-- `if let Some(old) = blocks.remove(&height)`
abbrev pub forget_maybe : (List ℕ → List ℕ) → Option HistoricalFeeBlock → History → History
forget_maybe pop none x = x
forget_maybe pop (some old) x = forget pop old x

-- `if let (Some(rate), false) = (block.p10_sat_kvb, analog_stale) { analog.push_..(rate) }`
abbrev pub push_maybe : (ℕ → List ℕ → List ℕ) → Option ℕ → Bool → List ℕ → List ℕ
push_maybe push none b hs = hs
push_maybe push (some r) true hs = hs
push_maybe push (some r) false hs = push r hs

-- `blocks.insert(height, block)`, `txstat_bytes.saturating_add(block.txstat_bytes)`
unfoldable pub hold : ℕ → HistoricalFeeBlock → History → History
hold h b x = set_total (saturating_add x.total b.txstat_bytes) (set_blocks (insert h b x.blocks) x)

-- `insert`, a connect
unfoldable pub insert_of : ℕ → HistoricalFeeBlock → Option (List ℕ) → History → History
insert_of h b hash x =
    let y = truncate_above h x in
    let z = forget_maybe pop_back (get h y.blocks) (set_blocks (remove h y.blocks) y) in
    let u = hold h b (set_hashes (remove h z.hashes) z) in
    let v = set_hurdles (push_maybe push_back (hurdle_of b) u.stale u.hurdles) u in
    evict (note_hash h hash v)

-- of a preload with a rate while the windows are not stale, by the first and the last held height: above the last `push_back`, below the first `push_front`, else `analog_stale = true`, and `push_back` where none is held
abbrev pub preload_hurdle : ℕ → ℕ → Option ℕ → Option ℕ → History → History
preload_hurdle h r (some first) (some last) x =
    cond (ltb last h) (set_hurdles (push_back r x.hurdles) x)
    (cond (ltb h first) (set_hurdles (push_front r x.hurdles) x)
    (set_stale true x))
preload_hurdle h r (some first) none x = set_hurdles (push_back r x.hurdles) x
preload_hurdle h r none last x = set_hurdles (push_back r x.hurdles) x

abbrev pub preload_rate : ℕ → Option ℕ → Bool → History → History
preload_rate h none b x = x
preload_rate h (some r) true x = x
preload_rate h (some r) false x = preload_hurdle h r (first_key x.blocks) (last_key x.blocks) x

-- `insert_if_absent`, a preload
unfoldable pub insert_if_absent_of : ℕ → HistoricalFeeBlock → Option (List ℕ) → History → History
insert_if_absent_of h b hash x =
    let y = set_rates none x in
    let z = hold h b (preload_rate h (hurdle_of b) y.stale y) in
    cond (contains_key h x.blocks) x (evict (note_hash h hash z))

-- `rates`: up to 1 block at `CONFIDENCE_NEAR`, farther at `HISTORICAL_CONFIDENCE_FAR`: 0.999 and 0.95
unfoldable pub confidence_of : ℕ → Float
confidence_of n = cond (leb n 1) (round binary64 false 999 1000) (round binary64 false 95 100)

abbrev pub found : Answer → Option ℕ
found (rate r) = some r
found nothing = none
found (refusal k) = none

unfoldable pub rate_for : List ℕ → ℕ → Option ℕ
rate_for hs n = found (rate_among hs (pairs_of hs n) n (confidence_of n))

-- `blocks.values().filter_map(|b| b.p10_sat_kvb)`
abbrev pub cons_maybe : Option ℕ → List ℕ → List ℕ
cons_maybe none hs = hs
cons_maybe (some r) hs = r ∷ hs

unfoldable pub hurdles_of : List (Entry HistoricalFeeBlock) → List ℕ
hurdles_of [] = []
hurdles_of (e ∷ es) = cons_maybe (hurdle_of e.value) (hurdles_of es)

-- `if analog_stale { analog.rebuild(..); analog_stale = false; }`
unfoldable pub rebuilt : History → History
rebuilt x = cond x.stale (set_stale false (set_hurdles (hurdles_of x.blocks) x)) x

abbrev pub answered : Option (List (Option ℕ)) → History → List (Option ℕ)
answered (some rs) x = rs
answered none x = map (rate_for (rebuilt x).hurdles) x.targets

abbrev pub keep : Option (List (Option ℕ)) → History → History
keep (some rs) x = x
keep none x = set_rates (some (answered none x)) (rebuilt x)

-- what `rates` answers, and what it leaves
unfoldable pub rates_answer : History → List (Option ℕ)
rates_answer x = answered x.rates x

unfoldable pub after_rates : History → History
after_rates x = keep x.rates x
