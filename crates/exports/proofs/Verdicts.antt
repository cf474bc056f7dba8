-- Numbers of a refusal and of a count, through what they stand for and back. Assumes nothing.
use Prim.Native.Nat.{ℕ, zero, suc}
use mathlib.Core.Path.{◌≡◌, refl, ap, sym, ◌∙◌}
use mathlib.Core.List.{List}
use Rattle.std.specs.Prelude.{Ok, Err}
use Rattle.std.specs.declared.result.Result.{Result}
use Rattle.rbitcoin_mempool.specs.declared.answer.Refusal.{Refusal}
use Rattle.rbitcoin_mempool.specs.Outcome.{Verdict, refused, verdict, verdict_number, verdict_of}
use Rattle.rbitcoin_mempool.specs.Rates.{refused_with, number_of}
use Rattle.rbitcoin_mempool.specs.Counted.{Counted, count, counted_of}
use Rattle.rbitcoin_mempool.specs.Counted as counts
use Rattle.rbitcoin_mempool.specs.Windows.{open_refusal, opened, unopened}
use Rattle.rbitcoin_mempool.specs.Refusal.{number}
use Rattle.rbitcoin_mempool.proofs.Refusals.{some_number, refusing}
use Rattle.rbitcoin_mempool.proofs.Scans.{count-refused}
use Rattle.std.proofs.Common.{ne_eqb}
use Rattle.exports.specs.Counts.{count_refusal, count_number}

-- the number of an outcome, by its verdict and by the refusal that may be there
pub number_same : {A : Type 0} (o : Result A Refusal) → verdict_number (verdict o) ≡ number_of (refused_with o)
number_same (Ok _) = refl
number_same (Err k) = refl

pub number_is : (k : ℕ) (v : Verdict) → v ≡ verdict_of k → verdict_number v ≡ k
unfolding verdict_of
number_is zero v e = ap verdict_number e
number_is (suc k) v e = ap verdict_number e

-- the verdict of its own number
pub verdict_back : {A : Type 0} (o : Result A Refusal) → verdict_of (verdict_number (verdict o)) ≡ verdict o
unfolding verdict_of
verdict_back (Ok _) = refl
verdict_back (Err k) = sym (refusing (number k) (some_number k _ refl))

-- the count of a count's two numbers
pub counted_back : (k n : ℕ) (a : Counted) → a ≡ counted_of k n → a ≡ counted_of (count_refusal a) (count_number a)
unfolding counted_of
counted_back zero n a e = e ∙ sym (ap (λ x. counted_of (count_refusal x) (count_number x)) e)
counted_back (suc k) n a e = e ∙ sym (ap (λ x. counted_of (count_refusal x) (count_number x)) e)

-- a count and a refusal of their own numbers
pub count_back : (n : ℕ) → counted_of 0 n ≡ count n
unfolding counted_of
count_back n = refl

pub refused_back : (k : Refusal) → counted_of (number k) 0 ≡ counts.refused (number k)
refused_back k = sym (count-refused (number k) 0 (some_number k _ refl))

pub ruleset count_steps = (count_back, refused_back)

-- windows that a refusal left unopened
pub unopened_if_refused : (ts : List ℕ) (c h b a : ℕ) (k : Refusal) → refused (number k) ≡ verdict_of (open_refusal ts c h b a) → opened ts c h b a ≡ unopened
unfolding opened
unopened_if_refused ts c h b a k e = rw (ne_eqb (open_refusal ts c h b a) 0 (some_number k _ (number_is _ _ e))) refl
