-- `fee_est::edges::first_bucket_above` meets its contract. Assumes nothing.
use Rattle.std.proofs.Common.{ℕ, sym, ap, ◌∙◌, arith, le-ltb, lt-ltb}
use Rattle.num.specs.Word.{saturating_add}
use Rattle.rbitcoin_mempool.specs.Edges.{edge_at, first_above, first_bucket_above}
use Rattle.rbitcoin_mempool.proofs.Decade.{last_edge}
use Rattle.rbitcoin_mempool.proofs.fee_est.edges.first_bucket_above.Goals as goal

pub returns-then-i-lt401 : goal.returns-then-i-lt401
unfolding first_bucket_above
returns-then-i-lt401 c =
    rw (lt-ltb (first_above c.args.rate_sat_per_kvb) 401 (omega (arith, c.first_above-i.ensures))) c.first_above-i.ensures

pub returns-then-rate_sat_per_kvb-open_floor : goal.returns-then-rate_sat_per_kvb-open_floor
unfolding first_bucket_above
returns-then-rate_sat_per_kvb-open_floor c =
    let x = c.args.rate_sat_per_kvb in
    let g = c.saturating_add-open_floor.ensures ∙ ap (λ (n : ℕ). saturating_add n 1) (sym last_edge) in
    rw (le-ltb (first_above x) 401 (omega (arith, c.first_above-i.ensures)), lt-ltb x (saturating_add (edge_at 400) 1) (omega (arith, g)))

pub returns : goal.returns
unfolding first_bucket_above
returns c =
    let x = c.args.rate_sat_per_kvb in
    let g = c.saturating_add-open_floor.ensures ∙ ap (λ (n : ℕ). saturating_add n 1) (sym last_edge) in
    rw (le-ltb (first_above x) 401 (omega (arith, c.first_above-i.ensures)), le-ltb x (saturating_add (edge_at 400) 1) (omega (arith, g)))
