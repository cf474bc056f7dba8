-- One more in the first of the unused places. Assumes nothing.
use Rattle.std.proofs.Common.{◌≡◌, ℕ, ◌+◌, ◌-◌, ◌<◌, List, drop, set, replicate, sym, ap, ◌∙◌, arith, length-set}
use Rattle.std.proofs.lemmas.List.{drop-set-lt, drop-drop, drop-replicate}
use Rattle.quote_lines.specs.Few.{IsPadded}

module _ {T : Type 0} (zero : T) (most n : ℕ) (places : List T) where
  zeros_behind : (x : T) → drop n places ≡ replicate (most - n) zero
      → drop (n + 1) (set places n x) ≡ replicate (most - (n + 1)) zero
  zeros_behind x h =
      let fewer : most - n - 1 ≡ most - (n + 1) = omega arith in
      drop-set-lt (n + 1) places n x (omega arith)
      ∙ sym (drop-drop 1 n places)
      ∙ ap (drop 1) h
      ∙ drop-replicate 1 (most - n) zero
      ∙ ap (λ (k : ℕ). replicate k zero) fewer

  pub padded_more : (x : T) → IsPadded zero most n places → n < most → IsPadded zero most (n + 1) (set places n x)
  padded_more x h l = (omega (arith, l), length-set places n x ∙ h.1, zeros_behind x h.2)
