-- The suffix sums as the loop fills them in, from the last bucket down. Assumes nothing.
use Rattle.std.proofs.Common.{◌≡◌, ℕ, suc, ◌+◌, ◌-◌, ◌<◌, ◌≤◌, min, List, length, get_or, take, drop, set, replicate, sym, ◌∙◌, subst, inl, inr, eq-or-lt_of_le, add-one, arith, length-set, drop_of_length-le, length-take, drop-cons, get_or-set_other, get_or-take, get_or-set_same}
use lib.ListN.{length-replicate, get_or-replicate}
use Rattle.num.specs.Word.{saturating_add, saturating_mul}
use Rattle.slices.proofs.Lists.{tabulate-is}
use Rattle.rbitcoin_mempool.specs.Capacity.{inflow_wu, inflow_suffix_wu}

-- the sums from place i on are in
pub record Summed (inflow : List ℕ) (secs : ℕ) (s : List ℕ) (i : ℕ) : Type 0 where
  pub size : length s ≡ 403
  pub within : i ≤ min (length inflow) 402
  pub sums : (k : ℕ) → i ≤ k → k < 403 → get_or s k 0 ≡ inflow_wu secs (drop k (take 402 inflow))

module _ (inflow : List ℕ) (secs : ℕ) where
  short : length (take 402 inflow) ≡ min 402 (length inflow)
  short = length-take 402 inflow

  pub summed-start : (i : ℕ) → i ≡ min (length inflow) 402 → Summed inflow secs (replicate 403 0) i
  unfolding inflow_wu
  summed-start i e =
      record {
        size = length-replicate {A = ℕ} 403 0;
        within = omega arith;
        sums = λ k a b. let q : length (take 402 inflow) ≤ k = omega (arith, short) in get_or-replicate {A = ℕ} 403 k 0 0 b ∙ rw (drop_of_length-le (take 402 inflow) q);
      }

  one : (j : ℕ) → j < min (length inflow) 402 → inflow_wu secs (drop j (take 402 inflow)) ≡ saturating_add (inflow_wu secs (drop (suc j) (take 402 inflow))) (saturating_mul (get_or inflow j 0) secs)
  unfolding inflow_wu
  one j h = rw (drop-cons (take 402 inflow) j 0 (omega (arith, short)), get_or-take 402 inflow j 0 (omega arith))

  pub summed-step : (s : List ℕ) (i v : ℕ) → 0 < i → Summed inflow secs s i → v ≡ saturating_add (get_or s (i - 1 + 1) 0) (saturating_mul (get_or inflow (i - 1) 0) secs) → Summed inflow secs (set s (i - 1) v) (i - 1)
  summed-step s i v p h e =
      let j = i - 1 in
      let r : j < length s = omega (arith, h.size, h.within) in
      let here : v ≡ inflow_wu secs (drop j (take 402 inflow)) = e ∙ rw (add-one j, h.sums (suc j) (omega arith) (omega (arith, h.within))) (sym (one j (omega (arith, h.within)))) in
      record {
        size = length-set s j v ∙ h.size;
        within = omega (arith, h.within);
        sums = λ k a b. elim (eq-or-lt_of_le a) [
          | inl q ↦ subst (λ (m : ℕ). get_or (set s j v) m 0 ≡ inflow_wu secs (drop m (take 402 inflow))) q (get_or-set_same s j v 0 r ∙ here)
          | inr l ↦ get_or-set_other s j k v 0 (λ q. omega arith) ∙ h.sums k (omega arith) b
        ];
      }

  pub summed_end : (s : List ℕ) → Summed inflow secs s 0 → s ≡ inflow_suffix_wu inflow secs
  unfolding inflow_suffix_wu
  summed_end s h = tabulate-is (λ i. inflow_wu secs (drop i (take 402 inflow))) 0 403 s h.size (λ k r. h.sums k (omega arith) r)
