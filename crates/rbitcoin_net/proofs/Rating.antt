-- The turns of the loops in `rates`: rows pushed behind, 16 places filled, and what is left of the scratch. Assumes nothing.
use Prim.Native.Nat.{ℕ, suc, ◌+◌, ◌-◌, ◌≤◌, ◌<◌}
use mathlib.Core.Path.{◌≡◌, refl, sym, ◌∙◌, ap}
use mathlib.Core.Bool.{Bool, true, false, cond}
use mathlib.Core.List.{List, ◌∷◌}
use mathlib.Core.Option.{Option, none, some}
use native.Mathlib.Omega.{arith}
use lib.Dec.{ltb}
use lib.Ieee.{Float}
use lib.ListN.{get_or, set}
use borrow.Author.Tests.{ltb-true, ltb-false}
use Rattle.slices.specs.Lists.{tabulate}
use Rattle.slices.proofs.Lists.{tabulate-at, tabulate-is}
use Rattle.rbitcoin_mempool.specs.Answer.{Answer, rate, refusal}
use Rattle.rbitcoin_mempool.specs.Answer.{none as nothing}
use Rattle.rbitcoin_mempool.specs.Rates.{mark_of}
use Rattle.rbitcoin_mempool.specs.Scan.{ScratchAfter, rate_sat_kvb}
use Rattle.rbitcoin_mempool.specs.Windows.{Windows, target_at, push_all, push_back_of}
use Rattle.rbitcoin_mempool.proofs.Padding.{Padding, pad-next}
use Rattle.rbitcoin_net.specs.Map.{Entry}
use Rattle.rbitcoin_net.specs.History.{hurdle_of, found, confidence_of, cons_maybe, hurdles_of}
use Rattle.rbitcoin_net.specs.Inserts.{push_rate}
use Rattle.rbitcoin_net.specs.Rates.{rate_from, slots}
use Rattle.rbitcoin_net.specs.declared.fee_history.HistoricalFeeBlock.{HistoricalFeeBlock}

-- ---- rows pushed behind

push_cons : (o : Option ℕ) (hs : List ℕ) (w : Windows) → push_all (cons_maybe o hs) w ≡ push_all hs (push_rate push_back_of o false w)
unfolding push_all push_rate
push_cons none hs w = refl
push_cons (some r) hs w = refl

module _ (f : ℕ → Entry HistoricalFeeBlock) (end : ℕ) (u : Windows) where
  rows-here : (i k : ℕ) → k ≡ suc (end - (i + 1)) → tabulate f i k ≡ f i ∷ tabulate f (i + 1) (end - (i + 1))
  unfolding tabulate
  rows-here i k e =
      let d : suc i ≡ i + 1 = omega arith in
      ap (tabulate f i) e ∙ ap (λ j. f i ∷ tabulate f j (end - (i + 1))) d

  pub rows_turn : (i : ℕ) (w v : Windows) → i < end → v ≡ push_rate push_back_of (hurdle_of (f i).value) false w → push_all (hurdles_of (tabulate f i (end - i))) w ≡ u → push_all (hurdles_of (tabulate f (i + 1) (end - (i + 1)))) v ≡ u
  unfolding hurdles_of
  rows_turn i w v l e inv =
      ap (push_all (hurdles_of (tabulate f (i + 1) (end - (i + 1))))) e
      ∙ sym (push_cons (hurdle_of (f i).value) (hurdles_of (tabulate f (i + 1) (end - (i + 1)))) w)
      ∙ sym (ap (λ es. push_all (hurdles_of es) w) (rows-here i (end - i) (omega arith)))
      ∙ inv

  pub rows-done : (i : ℕ) (w : Windows) → end ≤ i → push_all (hurdles_of (tabulate f i (end - i))) w ≡ u → w ≡ u
  unfolding hurdles_of tabulate push_all
  rows-done i w l inv =
      let d : end - i ≡ 0 = omega arith in
      sym (ap (λ k. push_all (hurdles_of (tabulate f i k)) w) d) ∙ inv

-- ---- 16 places filled

module _ (f : ℕ → ℕ) (out : List ℕ) (i : ℕ) (h : Padding (tabulate f 0 16) out i) where
  pub slots_turn : (v : ℕ) → i < 16 → v ≡ f i → Padding (tabulate f 0 16) (set out i v) (i + 1)
  slots_turn v l e = rw (e ∙ sym (tabulate-at f 0 16 i l)) (pad-next (tabulate f 0 16) out i h l)

  pub slots-done : out ≡ slots i f
  unfolding slots
  slots-done = tabulate-is (λ d. cond (ltb d i) (f d) 0) 0 16 out h.size (λ k l. go k l (ltb k i) refl)
    where
      go : (k : ℕ) → k < 16 → (b : Bool) → ltb k i ≡ b → get_or out k 0 ≡ cond b (f k) 0
      go k l true e = h.done k (ltb-true k i e) ∙ tabulate-at f 0 16 k l
      go k l false e = h.rest k (ltb-false k i e)

-- ---- what is left of the scratch

pub scratch-same : (a : Answer) (xs ys : List ℕ) → ScratchAfter a xs ys → found a ≡ none → ys ≡ xs
scratch-same (rate r) xs ys h e = absurd (let f : some r ≡ none = e in some-none r f)
  where
    some-none : (r : ℕ) → some r ≡ none → ⊥
    some-none r e = let g : ◌≡◌ {A = ℕ} 1 0 = ap mark_of e in omega arith
scratch-same nothing xs ys h e = h
scratch-same (refusal k) xs ys h e = h

-- ---- a rate as it is asked for

pub rate_read : (w : Windows) (z y d n : ℕ) (c : Float) (a : Answer) → a ≡ rate_sat_kvb w y n c → y ≡ z → n ≡ target_at w.state d → c ≡ confidence_of n → found a ≡ rate_from w z d
unfolding rate_from
rate_read w z y d n c a e f g h =
    ap found (e ∙ (λ i. rate_sat_kvb w (f i) n c) ∙ (λ i. rate_sat_kvb w z n (h i)) ∙ (λ i. rate_sat_kvb w z (g i) (confidence_of (g i))))
