-- What is lent to a history, as the definitions see it. Definitions only.
use Rattle.std.specs.Prelude.{◌≡◌}
use Rattle.rbitcoin_mempool.specs.declared.fee_analog.memory.WindowMemory.{WindowMemory}
use Rattle.rbitcoin_mempool.specs.declared.fee_analog.memory.WindowLists.{WindowLists}
use Rattle.rbitcoin_net.specs.declared.fee_history.memory.RowMemory.{RowMemory}
use Rattle.rbitcoin_net.specs.declared.fee_history.memory.HashMemory.{HashMemory}
use Rattle.rbitcoin_net.specs.declared.fee_history.memory.RowLists.{RowLists}
use Rattle.rbitcoin_net.specs.declared.fee_history.memory.HashLists.{HashLists}
use Rattle.rbitcoin_net.specs.declared.fee_history.FeeHistory.{FeeHistory}
use Rattle.rbitcoin_net.specs.Lent.{Rows, rows, Hashes, hashes, Lent, lent}
use Rattle.rbitcoin_net.specs.Inserts.{Whole, whole}
use Rattle.rbitcoin_net.specs.Rates.{Rated, rated}

-- lists that are lent to write, and lists that are lent only to read
abbrev pub rows_of : RowMemory → Rows
rows_of m = rows m.heights.now m.marks.now m.rates.now m.sizes.now

abbrev pub rows_seen : RowLists → Rows
rows_seen l = rows l.heights.now l.marks.now l.rates.now l.sizes.now

abbrev pub hashes_of : HashMemory → Hashes
hashes_of m = hashes m.heights.now m.bytes.now

abbrev pub hashes_seen : HashLists → Hashes
hashes_seen l = hashes l.heights.now l.bytes.now

abbrev pub lent_of : RowMemory → HashMemory → WindowMemory → Lent
lent_of m z w = lent (rows_of m) (hashes_of z) w.hurdles.now w.befores.now w.aheads.now

abbrev pub lent_seen : RowLists → HashLists → WindowLists → Lent
lent_seen m z w = lent (rows_seen m) (hashes_seen z) w.hurdles.now w.befores.now w.aheads.now

-- a state with all of it, and with the windows' memory
abbrev pub whole_of : FeeHistory → RowMemory → HashMemory → WindowMemory → Whole
whole_of s m z w = whole s (lent_of m z w)

abbrev pub rated_of : FeeHistory → WindowMemory → Rated
rated_of s w = rated s w.hurdles.now w.befores.now w.aheads.now

abbrev pub rated_seen : FeeHistory → WindowLists → Rated
rated_seen s w = rated s w.hurdles.now w.befores.now w.aheads.now

-- the lists are still those that the caller lent
abbrev pub SameRows : RowMemory → RowMemory → Type 0
SameRows m n =
    (m.heights.ghost_name ≡ n.heights.ghost_name) × (m.marks.ghost_name ≡ n.marks.ghost_name)
    × (m.rates.ghost_name ≡ n.rates.ghost_name) × (m.sizes.ghost_name ≡ n.sizes.ghost_name)

abbrev pub SameHashes : HashMemory → HashMemory → Type 0
SameHashes m n = (m.heights.ghost_name ≡ n.heights.ghost_name) × (m.bytes.ghost_name ≡ n.bytes.ghost_name)
