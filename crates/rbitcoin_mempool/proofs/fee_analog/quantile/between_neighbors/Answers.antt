-- `fee_analog::quantile::between_neighbors` meets its contract. Assumes nothing.
use Rattle.std.proofs.Common.{sym, ap, ◌∙◌, eq-eqb, ne_eqb}
use lib.Ieee.{binary64, sub}
use Rattle.rbitcoin_mempool.specs.Quantile.{blend_of, between_neighbors}
use Rattle.rbitcoin_mempool.proofs.fee_analog.quantile.between_neighbors.Goals as goal

pub returns-then-a-b : goal.returns-then-a-b
unfolding between_neighbors
returns-then-a-b c = sym (rw (eq-eqb c.args.a c.args.b c.if-a-b.true))

pub returns : goal.returns
unfolding between_neighbors
returns c =
    c.blend.ensures
    ∙ ap (λ f. blend_of c.args.a c.args.b (sub binary64 c.args.rank f)) c.floor.ensures
    ∙ sym (rw (ne_eqb c.args.a c.args.b c.if-a-b.false))
