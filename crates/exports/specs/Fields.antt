-- An answer as three numbers. Definitions only.
use Rattle.std.specs.Prelude.{ℕ, ◌≡◌}
use Rattle.rbitcoin_mempool.specs.Answer.{Answer, rate, none, refusal}

-- the refusal's number or 0, the mark of a rate that is there, the rate or 0
abbrev pub refusal_of : Answer → ℕ
refusal_of (rate r) = 0
refusal_of none = 0
refusal_of (refusal k) = k

abbrev pub mark_of : Answer → ℕ
mark_of (rate r) = 1
mark_of none = 0
mark_of (refusal k) = 0

abbrev pub rate_of : Answer → ℕ
rate_of (rate r) = r
rate_of none = 0
rate_of (refusal k) = 0

pub record Fields (a : Answer) (k m r : ℕ) : Type 0 where
  pub is_refusal : k ≡ refusal_of a
  pub is_mark : m ≡ mark_of a
  pub is_rate : r ≡ rate_of a
