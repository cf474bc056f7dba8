-- How the places of an array are filled: one a turn, or by calls. Assumes nothing.
use Rattle.std.proofs.Common.{◌≡◌, ℕ, zero, suc, ◌+◌, ◌<◌, ◌≤◌, List, length, get_or, set, replicate, sym, refl, ap, ◌∙◌, ⊎_elim, eq-or-lt_of_le, not-suc-le-zero, arith, length-set, get_or-set_other, get_or-set_same}
use native.Mathlib.Decide.{dec_le, ℕ_discrete}
use lib.ListN.{length-replicate, get_or-replicate, get_or-eq_default}
use denote.Param.Members.{Mut, Called}
use Rattle.std.specs.Array.{IsFromFnResultFrom}

-- the first i places hold the targets there, and the rest 0
pub record Padding (targets out : List ℕ) (i : ℕ) : Type 0 where
  pub size : length out ≡ 16
  pub within : i ≤ 16
  pub done : (j : ℕ) → j < i → get_or out j 0 ≡ get_or targets j 0
  pub rest : (j : ℕ) → i ≤ j → get_or out j 0 ≡ 0

none_there : (n j : ℕ) → ◌≡◌ {A = ℕ} (get_or (replicate n 0) j 0) 0
none_there n j = go (dec_le n j)
  where
    go : Dec (n ≤ j) → ◌≡◌ {A = ℕ} (get_or (replicate n 0) j 0) 0
    go (yes h) = get_or-eq_default (replicate n 0) 0 (rw length-replicate h)
    go (no h) = get_or-replicate n j 0 0 (omega arith)

pub pad-start : (targets : List ℕ) → Padding targets (replicate 16 0) 0
pad-start targets = record { size = refl; within = omega arith; done = λ j r. absurd (not-suc-le-zero r); rest = λ j r. none_there 16 j }

module _ (targets out : List ℕ) (i : ℕ) (h : Padding targets out i) where
  pub pad-next : i < 16 → Padding targets (set out i (get_or targets i 0)) (i + 1)
  pad-next r =
      record {
        size = length-set out i _ ∙ h.size;
        within = omega arith;
        done = λ j q. done j q (ℕ_discrete j i);
        rest = λ j q. get_or-set_other out i j _ 0 (λ e. omega arith) ∙ h.rest j (omega arith);
      }
    where
      done : (j : ℕ) → j < i + 1 → Dec (j ≡ i) → get_or (set out i (get_or targets i 0)) j 0 ≡ get_or targets j 0
      done j q (yes e) = rw e (get_or-set_same out i _ 0 (omega (arith, h.size)))
      done j q (no n) = get_or-set_other out i j _ 0 n ∙ h.done j (omega arith)

-- calls that give h at each number, and keep what K says, fill an array with h
module _ {F B : Type 0} (g : Mut F (ℕ × Unit {0}) B) (K : F → Type 0) (h : ℕ → B) (d : B)
    (step : (p q : F) (i : ℕ) (y : B) → K p → Called g p (i, tt) y q → (y ≡ h i) × K q) where
  pub gives : (f : F) (ys : List B) (i n : ℕ) → K f → IsFromFnResultFrom g f ys i n → (k : ℕ) → i ≤ k → k < i + n → get_or ys k d ≡ h k
  gives f ys i zero a r k p q = absurd (omega arith)
  gives f ys i (suc n) a r k p q =
      let s = step f r.0 i r.1 a r.3 in
      ⊎_elim
      (λ e. ap (λ j. get_or ys j d) (sym e) ∙ r.2.1 d ∙ s.0 ∙ ap h e)
      (λ l. gives r.0 ys (i + 1) n s.1 r.4 k (omega arith) (omega arith))
      (eq-or-lt_of_le p)
