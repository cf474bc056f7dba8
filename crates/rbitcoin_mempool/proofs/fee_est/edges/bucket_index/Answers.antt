-- `fee_est::edges::bucket_index` meets its contract. Assumes nothing.
use Rattle.std.proofs.Common.{ℕ, ◌-◌, sym, ap, ◌∙◌, arith, le-ltb, lt-ltb, eq-eqb, ne_eqb}
use Rattle.rbitcoin_mempool.specs.Edges.{edge_at, first_above, bucket_index}
use Rattle.rbitcoin_mempool.proofs.Decade.{last_edge}
use Rattle.rbitcoin_mempool.proofs.fee_est.edges.bucket_index.Goals as goal

pub returns-then-at_or_below-eq0 : goal.returns-then-at_or_below-eq0
unfolding bucket_index
returns-then-at_or_below-eq0 c = rw (bucket_index, eq-eqb _ 0 (sym c.first_above-at_or_below.ensures ∙ c.if-at_or_below-eq0.true))

pub returns-then-rate_sat_per_kvb-gt-LAST_EDGE : goal.returns-then-rate_sat_per_kvb-gt-LAST_EDGE
unfolding bucket_index
returns-then-rate_sat_per_kvb-gt-LAST_EDGE c =
    let x = c.args.rate_sat_per_kvb in
    rw (ne_eqb (first_above x) 0 (λ z. c.if-at_or_below-eq0.false (c.first_above-at_or_below.ensures ∙ z)), lt-ltb (edge_at 400) x (omega (arith, last_edge)))

pub returns : goal.returns
unfolding bucket_index
returns c =
    let x = c.args.rate_sat_per_kvb in
    rw (ne_eqb (first_above x) 0 (λ z. c.if-at_or_below-eq0.false (c.first_above-at_or_below.ensures ∙ z)), le-ltb (edge_at 400) x (omega (arith, last_edge)))
    (ap (λ (n : ℕ). n - 1) c.first_above-at_or_below.ensures)
