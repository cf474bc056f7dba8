-- A rate that may be missing as a mark and a number. Definitions only.
use Rattle.std.specs.Prelude.{ℕ, ◌≡◌}
use Rattle.std.proofs.Math.Option.{Option}
use Rattle.exports.specs.declared.depths.MarkedRate.{MarkedRate}
use Rattle.rbitcoin_mempool.specs.Rates.{marked, number_of, mark_of}

-- what C passes: the rate is there under the mark 1, and missing under any other
abbrev pub rate_in : MarkedRate → Option ℕ
rate_in m = marked m.rate m.mark

-- what C is given: 1 and the rate, or 0 and 0
abbrev pub Marks : Option ℕ → MarkedRate → Type 0
Marks rate m = (m.mark ≡ mark_of rate) × (m.rate ≡ number_of rate)
