-- A held block as numbers: its mark, its rate and its bytes. Definitions only.
use Rattle.std.specs.Prelude.{ℕ, Bool, true, false, ◌≡◌}
use Rattle.rbitcoin_mempool.specs.Rates.{given, mark_of, number_of}
use Rattle.rbitcoin_net.specs.declared.fee_history.HistoricalFeeBlock.{HistoricalFeeBlock}
use Rattle.rbitcoin_net.specs.Lent.{rate_of}
use Rattle.rbitcoin_net.specs.Search as search
use Rattle.std.specs.Prelude.{cond, List}
use Rattle.std.proofs.Math.Option.{Option, none, some}
use Rattle.exports.specs.declared.history.BlockHash.{BlockHash}

-- the block of a mark, 1 for a rate that is there, a rate and a byte count
abbrev pub block_of : ℕ → ℕ → ℕ → HistoricalFeeBlock
block_of mark rate bytes = record { p10_sat_kvb = rate_of mark rate; txstat_bytes = bytes }

-- a hash that is there, or none
abbrev pub hash_in : BlockHash → Option (List ℕ)
hash_in h = cond h.there (some h.bytes) none

-- the answer to a question for a block: the refusal's number or 0, whether the height is held, and the block's mark, rate and bytes or 0
abbrev pub refusal_of : search.Looked → ℕ
refusal_of (search.block b) = 0
refusal_of search.nothing = 0
refusal_of (search.refused k) = k

abbrev pub is_held : search.Looked → Bool
is_held (search.block b) = true
is_held search.nothing = false
is_held (search.refused k) = false

abbrev pub mark_in : search.Looked → ℕ
mark_in (search.block b) = mark_of (given b.p10_sat_kvb)
mark_in search.nothing = 0
mark_in (search.refused k) = 0

abbrev pub rate_in : search.Looked → ℕ
rate_in (search.block b) = number_of (given b.p10_sat_kvb)
rate_in search.nothing = 0
rate_in (search.refused k) = 0

abbrev pub bytes_in : search.Looked → ℕ
bytes_in (search.block b) = b.txstat_bytes
bytes_in search.nothing = 0
bytes_in (search.refused k) = 0

pub record BlockIs (a : search.Looked) (k : ℕ) (held : Bool) (m r z : ℕ) : Type 0 where
  pub is_refusal : k ≡ refusal_of a
  pub is_held : held ≡ is_held a
  pub is_mark : m ≡ mark_in a
  pub is_rate : r ≡ rate_in a
  pub is_bytes : z ≡ bytes_in a
