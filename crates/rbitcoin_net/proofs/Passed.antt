-- What a refusal passed on by `?` answers. Assumes nothing.
use Rattle.std.proofs.Common.{◌≡◌, ℕ, zero, suc, ap, refl}
use Rattle.std.specs.Prelude.{Ok, Err, Some, None}
use Rattle.std.specs.Result.{IsErrAnd, result_unwrap_or}
use Rattle.std.specs.declared.option.Option as rust
use Rattle.std.specs.declared.result.Result.{Result}
use Rattle.rbitcoin_mempool.specs.declared.answer.Refusal.{Refusal}
use Rattle.rbitcoin_mempool.specs.Refusal.{number}
use Rattle.rbitcoin_mempool.specs.Outcome.{Verdict, verdict, refused, verdict_of, verdict_number}
use Rattle.rbitcoin_mempool.specs.Answer.{answer}
use Rattle.rbitcoin_mempool.specs.Rates.{given}
use Rattle.rbitcoin_net.specs.History.{found}
use Rattle.rbitcoin_mempool.specs.Counted as counts
use Rattle.rbitcoin_net.specs.Search as search
use Rattle.rbitcoin_net.specs.Openings.{fresh_of, opened_or_empty}
use Rattle.rbitcoin_mempool.specs.Windows.{unopened as unopened_windows}
use Rattle.rbitcoin_net.specs.declared.fee_history.HistoricalFeeBlock.{HistoricalFeeBlock}
use Rattle.rbitcoin_net.specs.declared.fee_history.FeeHistory.{FeeHistory}

pub verdict_err : {A : Type 0} (q : Result A Refusal) (k : Refusal) → IsErrAnd q (λ e. e ≡ k) → verdict q ≡ refused (number k)
verdict_err (Ok a) k h = absurd h
verdict_err (Err j) k h = ap (λ e. refused (number e)) h

pub counted_err : (q : Result ℕ Refusal) (k : Refusal) → IsErrAnd q (λ e. e ≡ k) → counts.counted q ≡ counts.refused (number k)
counted_err (Ok a) k h = absurd h
counted_err (Err j) k h = ap (λ e. counts.refused (number e)) h

pub looked_err : (q : Result (rust.Option HistoricalFeeBlock) Refusal) (k : Refusal) → IsErrAnd q (λ e. e ≡ k) → search.looked q ≡ search.refused (number k)
looked_err (Ok a) k h = absurd h
looked_err (Err j) k h = ap (λ e. search.refused (number e)) h

pub opened_err : (q : Result FeeHistory Refusal) (k : Refusal) → IsErrAnd q (λ e. e ≡ k) → opened_or_empty q ≡ fresh_of 0 unopened_windows
opened_err (Ok a) k h = absurd h
opened_err (Err j) k h = refl

-- the number of a verdict, where it is that of x
pub number_of_verdict : (v : Verdict) (x : ℕ) → v ≡ verdict_of x → verdict_number v ≡ x
unfolding verdict_of
number_of_verdict v zero e = ap verdict_number e
number_of_verdict v (suc x) e = ap verdict_number e

-- the rate that an answer gives, none where it is refused

-- the rate that an answer gives, none where it is refused
pub found_is : (q : Result (rust.Option ℕ) Refusal) (r : rust.Option ℕ) → r ≡ result_unwrap_or q None → given r ≡ found (answer q)
found_is (Ok (Some n)) r e = ap given e
found_is (Ok None) r e = ap given e
found_is (Err k) r e = ap given e
