-- `fee_analog::quantile::log_quantile` meets its contract. Assumes nothing.
use Rattle.std.proofs.Common.{◌≡◌, length, get_or, sym, ap, ◌∙◌, rules}
use borrow.Author.Tests.{not-true, not-false}
use Rattle.rbitcoin_mempool.specs.Answer.{rate}
use Rattle.rbitcoin_mempool.specs.Quantile.{rank_of}
use Rattle.rbitcoin_mempool.proofs.Quantiles.{quantile-by, quantile_empty, quantile-refused, quantile-found, leaves_empty, leaves-refused, leaves_sorted}
use Rattle.std.proofs.lemmas.Bool.{not_from_true, not_from_false}
use Rattle.rbitcoin_mempool.proofs.fee_analog.quantile.log_quantile.Goals as goal

pub returns-then-is_empty : goal.returns-then-is_empty
returns-then-is_empty c =
    let e : length c.args.outcomes.now ≡ 0 = search rules in
    record {
      result_value = quantile_empty c.args.confidence c.args.outcomes.now e;
      outcomes_after = leaves_empty c.args.confidence c.args.outcomes.now e;
    }

pub returns-then-not-in_unit : goal.returns-then-not-in_unit
returns-then-not-in_unit c =
    let h = sym c.in_unit.ensures ∙ not-true _ (not_from_false _ c.if-not-in_unit.true) in
    record {
      result_value = quantile-refused c.args.confidence c.args.outcomes.now (λ e. search rules) h;
      outcomes_after = leaves-refused c.args.confidence c.args.outcomes.now h;
    }

pub returns : goal.returns
returns c =
    let h = sym c.in_unit.ensures ∙ not-false _ (not_from_true _ c.if-not-in_unit.false) in
    let xs = c.args.outcomes.now in
    let s = c.sort.new.xs in
    let r : c.rank_of-rank.result ≡ rank_of c.args.confidence (length xs) = c.rank_of-rank.ensures ∙ ap (rank_of c.args.confidence) c.sort.auto.xs in
    let a : c.unwrap_or-a.result ≡ get_or s c.places_around-lower.result.0 0 = search rules in
    let b : c.unwrap_or-b.result ≡ get_or s c.places_around-lower.result.1 0 = search rules in
    let q =
    quantile-by c.args.confidence xs c.rank_of-rank.result _ _ _ _ _ r c.places_around-lower.ensures.0 c.places_around-lower.ensures.1
    (a ∙ ap (λ l. get_or l c.places_around-lower.result.0 0) c.sort.ensures)
    (b ∙ ap (λ l. get_or l c.places_around-lower.result.1 0) c.sort.ensures)
    c.between_neighbors.ensures in
    record {
      result_value = ap rate q ∙ quantile-found c.args.confidence xs (λ e. search rules) h;
      outcomes_after = c.sort.ensures ∙ leaves_sorted c.args.confidence xs h;
    }
