-- Each of the Rust's functions keeps the byte total the true sum, where the sum before its eviction fits a u64. Assumes nothing.
use Prim.Native.Nat.{ℕ, ◌+◌, ◌-◌, ◌^◌, ◌<◌}
use mathlib.Core.Path.{◌≡◌, refl, sym, ◌∙◌, ap, subst}
use mathlib.Core.Bool.{Bool, true, false, cond}
use mathlib.Core.List.{List, [], ◌∷◌, ◌++◌}
use mathlib.Core.Option.{Option, none, some}
use native.Mathlib.Omega.{arith}
use lib.Dec.{ltb}
use borrow.Author.Tests.{lt-ltb, le-ltb, le-leb, lt-leb, eq-eqb, ne_eqb}
use Rattle.rbitcoin_mempool.specs.Pairs.{pop_back, push_back, push_front}
use Rattle.rbitcoin_net.specs.declared.fee_history.HistoricalFeeBlock.{HistoricalFeeBlock}
use Rattle.rbitcoin_net.specs.Map.{Entry, entry, Ascends, retain, below, above, onward, get, is_some, contains_key, insert, first_key, last_key}
use Rattle.rbitcoin_net.specs.History.{History, set_blocks, set_total, set_hurdles, set_stale, set_rates, new, hurdle_of, forget, forget_all, next, truncate_above, note_hash, evict_one, evict_blocks, evict, hold, push_maybe, preload_hurdle, preload_rate, insert_of, insert_if_absent_of, hurdles_of, rebuilt, keep, after_rates}
use Rattle.rbitcoin_net.specs.Sums.{sum_of, Exact}
use Rattle.rbitcoin_net.proofs.Tables.{either, not-both}
use Rattle.rbitcoin_net.proofs.CutViews.{without, cut-is}
use Rattle.rbitcoin_net.proofs.MapLaws.{get-below, cleared, connect_clears}

sum_append : (xs ys : List (Entry HistoricalFeeBlock)) → sum_of (xs ++ ys) ≡ sum_of xs + sum_of ys
unfolding sum_of
sum_append [] ys = omega arith
sum_append (x ∷ xs) ys = let i = sum_append xs ys in omega arith

sum_parts : (k : ℕ) (es : List (Entry HistoricalFeeBlock)) → sum_of es ≡ sum_of (below k es) + sum_of (onward k es)
unfolding sum_of below onward retain
sum_parts k [] = omega arith
sum_parts k (e ∷ es) =
    let i = sum_parts k es in
    either e.key k
    (λ l. rw (lt-ltb e.key k l, lt-leb k e.key l) (omega arith))
    (λ l. rw (le-ltb e.key k l, le-leb k e.key l) (omega arith))

-- a height that is not there stands neither below itself nor above
sum_absent : (h : ℕ) (es : List (Entry HistoricalFeeBlock)) → contains_key h es ≡ false → sum_of es ≡ sum_of (below h es) + sum_of (above h es)
unfolding sum_of below above retain get
sum_absent h [] t = omega arith
sum_absent h (e ∷ es) t =
    either e.key h
    (λ l. let i = sum_absent h es (rw (ne_eqb e.key h (λ q. omega arith)) at t) in rw (lt-ltb e.key h l, le-ltb h e.key (omega arith)) (omega arith))
    (λ l. either h e.key
    (λ m. let i = sum_absent h es (rw (ne_eqb e.key h (λ q. omega arith)) at t) in rw (le-ltb e.key h l, lt-ltb h e.key m) (omega arith))
    (λ m. absurd (not-both (sym t ∙ rw (eq-eqb e.key h (omega arith))))))

sum-insert : (h : ℕ) (b : HistoricalFeeBlock) (es : List (Entry HistoricalFeeBlock)) → contains_key h es ≡ false → sum_of (insert h b es) ≡ sum_of es + b.txstat_bytes
unfolding insert sum_of
sum-insert h b es t =
    let i = sum_absent h es t in
    let j = sum_append (below h es) (entry h b ∷ above h es) in
    omega arith

-- ---- cuts

forgets-total : (pop : List ℕ → List ℕ) (es : List (Entry HistoricalFeeBlock)) (x : History) → (forget_all pop es x).total ≡ x.total - sum_of es
unfolding forget_all forget sum_of
forgets-total pop [] x = omega arith
forgets-total pop (e ∷ es) x = forgets-total pop es (forget pop e.value x) ∙ (let d : x.total - e.value.txstat_bytes - sum_of es ≡ x.total - (e.value.txstat_bytes + sum_of es) = omega arith in d)

without-exact : (k : ℕ) (x : History) → Exact x → Exact (without k x)
without-exact k x e =
    let f = forgets-total pop_back (onward k x.blocks) x in
    let p = sum_parts k x.blocks in
    omega arith

pub truncate-exact : (h : ℕ) (x : History) → Exact x → Exact (truncate_above h x)
truncate-exact h x e = subst Exact (sym (cut-is h x)) (without-exact (next h) x e)

-- ---- evictions

evicts-exact : (es : List (Entry HistoricalFeeBlock)) (x : History) → x.total ≡ sum_of es → Exact (evict_blocks es x)
unfolding evict_blocks evict_one forget sum_of
evicts-exact [] x e = go (ltb x.budget x.total)
  where
    go : (b : Bool) → Exact (cond b (set_total 0 (set_blocks [] x)) (set_blocks [] x))
    go true = refl
    go false = e
evicts-exact (f ∷ es) x e = go (ltb x.budget x.total) (evicts-exact es (evict_one f x) (omega arith))
  where
    go : (b : Bool) → Exact (evict_blocks es (evict_one f x)) → Exact (cond b (evict_blocks es (evict_one f x)) (set_blocks (f ∷ es) x))
    go true i = i
    go false i = e

evict-exact : (x : History) → Exact x → Exact (evict x)
unfolding evict
evict-exact x e = evicts-exact x.blocks (set_rates none x) e

note-exact : (h : ℕ) (hash : Option (List ℕ)) (x : History) → Exact x → Exact (note_hash h hash x)
note-exact h none x e = e
note-exact h (some bytes) x e = e

-- ---- a block put in where its height is absent

hold-exact : (h : ℕ) (b : HistoricalFeeBlock) (x : History) → contains_key h x.blocks ≡ false → sum_of (insert h b x.blocks) < 2 ^ 64 → Exact x → Exact (hold h b x)
unfolding hold
hold-exact h b x t l e = let i = sum-insert h b x.blocks t in omega arith

pub insert-exact : (h : ℕ) (b : HistoricalFeeBlock) (hash : Option (List ℕ)) (x : History) → h < 2 ^ 32 → Ascends x.blocks → sum_of (insert h b (below h x.blocks)) < 2 ^ 64 → Exact x → Exact (insert_of h b hash x)
unfolding insert_of hold
insert-exact h b hash x small asc l e =
    let c = connect_clears h small x asc in
    let y = cleared h x in
    let bs : y.blocks ≡ below h x.blocks = ap (λ (v : History). v.blocks) c in
    let t : contains_key h y.blocks ≡ false = ap (contains_key h) bs ∙ ap is_some (get-below h x.blocks) in
    let m : sum_of (insert h b y.blocks) < 2 ^ 64 = subst (λ (es : List (Entry HistoricalFeeBlock)). sum_of (insert h b es) < 2 ^ 64) (sym bs) l in
    let u = hold h b y in
    let v = set_hurdles (push_maybe push_back (hurdle_of b) u.stale u.hurdles) u in
    evict-exact (note_hash h hash v) (note-exact h hash v (hold-exact h b y t m (subst Exact (sym c) (without-exact h x e))))

-- a preload's rate changes neither blocks nor total
preload-keeps : (h : ℕ) (o : Option ℕ) (st : Bool) (y : History) → ((preload_rate h o st y).blocks ≡ y.blocks) × ((preload_rate h o st y).total ≡ y.total)
preload-keeps h none st y = (refl, refl)
preload-keeps h (some r) true y = (refl, refl)
preload-keeps h (some r) false y = go (first_key y.blocks) (last_key y.blocks)
  where
    ends : (a c : Bool) → ((cond a (set_hurdles (push_back r y.hurdles) y) (cond c (set_hurdles (push_front r y.hurdles) y) (set_stale true y))).blocks ≡ y.blocks) × ((cond a (set_hurdles (push_back r y.hurdles) y) (cond c (set_hurdles (push_front r y.hurdles) y) (set_stale true y))).total ≡ y.total)
    ends true c = (refl, refl)
    ends false true = (refl, refl)
    ends false false = (refl, refl)

    go : (f l : Option ℕ) → ((preload_hurdle h r f l y).blocks ≡ y.blocks) × ((preload_hurdle h r f l y).total ≡ y.total)
    go none l = (refl, refl)
    go (some f) none = (refl, refl)
    go (some f) (some l) = ends (ltb l h) (ltb h f)

pub preload-exact : (h : ℕ) (b : HistoricalFeeBlock) (hash : Option (List ℕ)) (x : History) → (contains_key h x.blocks ≡ false → sum_of (insert h b x.blocks) < 2 ^ 64) → Exact x → Exact (insert_if_absent_of h b hash x)
unfolding insert_if_absent_of
preload-exact h b hash x fits e = go (contains_key h x.blocks) refl
  where
    y : History
    y = preload_rate h (hurdle_of b) x.stale (set_rates none x)

    put : contains_key h x.blocks ≡ false → Exact (evict (note_hash h hash (hold h b y)))
    put t =
        let k = preload-keeps h (hurdle_of b) x.stale (set_rates none x) in
        let m : sum_of (insert h b y.blocks) < 2 ^ 64 = subst (λ (es : List (Entry HistoricalFeeBlock)). sum_of (insert h b es) < 2 ^ 64) (sym k.0) (fits t) in
        evict-exact (note_hash h hash (hold h b y)) (note-exact h hash (hold h b y) (hold-exact h b y (ap (contains_key h) k.0 ∙ t) m (k.1 ∙ e ∙ ap sum_of (sym k.0))))

    go : (c : Bool) → contains_key h x.blocks ≡ c → Exact (cond c x (evict (note_hash h hash (hold h b y))))
    go true t = e
    go false t = put t

-- `rates`, and an opening
pub rates-exact : (x : History) → Exact x → Exact (after_rates x)
unfolding after_rates rebuilt
rates-exact x e = go x.rates
  where
    stale-or : (c : Bool) → Exact (cond c (set_stale false (set_hurdles (hurdles_of x.blocks) x)) x)
    stale-or true = e
    stale-or false = e

    go : (o : Option (List (Option ℕ))) → Exact (keep o x)
    go (some rs) = e
    go none = stale-or x.stale

pub new-exact : (budget : ℕ) (targets : List ℕ) → Exact (new budget targets)
unfolding sum_of
new-exact budget targets = refl
