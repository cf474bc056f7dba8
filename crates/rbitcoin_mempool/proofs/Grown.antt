-- The pairs of a list of hurdles grow as the Rust's deques do: a hurdle behind adds a pair behind, one in front adds a pair in front, where there is a window. Assumes nothing.
use Rattle.std.proofs.Common.{◌≡◌, ℕ, suc, ◌+◌, ◌-◌, ◌<◌, ◌≤◌, List, [], ◌∷◌, ◌++◌, length, ap, ◌∙◌, arith, length-append}
use lib.Ieee.{Float}
use Rattle.slices.specs.Lists.{tabulate}
use Rattle.slices.proofs.Lists.{tabulate-length, tabulate-same, tabulate_shift, tabulate_snoc}
use Rattle.rbitcoin_mempool.specs.Median.{analog_lookback}
use Rattle.rbitcoin_mempool.specs.Pairs.{Pair, ahead_of, pair_at, pairs_of, push_back, push_front, windows_in}
use Rattle.rbitcoin_mempool.proofs.Parts.{ahead_windowed, before_windowed}

pair_same : {a b : Float} {m n : ℕ} → a ≡ b → m ≡ n → ◌≡◌ {A = Pair} (record { before = a; ahead = m }) (record { before = b; ahead = n })
pair_same p q = cc

module _ (hs : List ℕ) (x target : ℕ) where
  longer : length (hs ++ (x ∷ [])) ≡ length hs + 1
  longer = length-append hs (x ∷ [])

  -- `push_back`: with k the number of hurdles then, the pair at k - n
  pub grown-back : analog_lookback target + ahead_of target ≤ length hs + 1
      → pairs_of (push_back x hs) target ≡ pairs_of hs target ++ (pair_at (push_back x hs) target (length hs + 1 - ahead_of target) ∷ [])
  unfolding pairs_of windows_in
  grown-back h =
      let b = analog_lookback target in
      let n = length hs + 1 - (b + ahead_of target) in
      let e : length (hs ++ (x ∷ [])) + 1 - (b + ahead_of target) ≡ suc n = omega (arith, longer) in
      let f : b + n ≡ length hs + 1 - ahead_of target = omega arith in
      ap (tabulate (pair_at (hs ++ (x ∷ [])) target) b) e
      ∙ tabulate_snoc (pair_at (hs ++ (x ∷ [])) target) b n
      ∙ ap (λ l. l ++ (pair_at (hs ++ (x ∷ [])) target (b + n) ∷ []))
      (tabulate-same (pair_at (hs ++ (x ∷ [])) target) (pair_at hs target) b n
      (λ t p q. pair_same (before_windowed.behind hs x target t p (omega arith)) (ahead_windowed.behind hs x target t p (omega arith))))
      ∙ ap (λ t. tabulate (pair_at hs target) b n ++ (pair_at (hs ++ (x ∷ [])) target t ∷ [])) f

  -- `push_front`: the pair at the lookback
  pub grown_front : analog_lookback target + ahead_of target ≤ length hs + 1
      → pairs_of (push_front x hs) target ≡ pair_at (push_front x hs) target (analog_lookback target) ∷ pairs_of hs target
  unfolding pairs_of windows_in tabulate
  grown_front h =
      let b = analog_lookback target in
      let n = length hs + 1 - (b + ahead_of target) in
      let e : suc (length hs) + 1 - (b + ahead_of target) ≡ suc n = omega arith in
      ap (tabulate (pair_at (x ∷ hs) target) b) e
      ∙ ap (λ l. pair_at (x ∷ hs) target b ∷ l)
      (tabulate_shift (pair_at (x ∷ hs) target) (pair_at hs target) b n
      (λ t p q. pair_same (before_windowed.before hs x target t p (omega arith)) (ahead_windowed.before hs x target t p (omega arith))))

-- fewer hurdles than one window needs have no pair
pub no_pair : (hs : List ℕ) (target : ℕ) → length hs < analog_lookback target + ahead_of target → pairs_of hs target ≡ []
unfolding pairs_of windows_in tabulate
no_pair hs target h =
    let e : length hs + 1 - (analog_lookback target + ahead_of target) ≡ 0 = omega arith in
    ap (tabulate (pair_at hs target) (analog_lookback target)) e

-- `pairs` counts them
pub pairs-counted : (hs : List ℕ) (target : ℕ) → length (pairs_of hs target) ≡ windows_in (length hs) target
unfolding pairs_of
pairs-counted hs target = tabulate-length (pair_at hs target) (analog_lookback target) (windows_in (length hs) target)
