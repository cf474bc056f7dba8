-- What is lent to pair windows, as the definitions see it. Definitions only.
use Rattle.std.specs.Prelude.{◌≡◌, length}
use Rattle.rbitcoin_mempool.specs.declared.fee_analog.memory.WindowMemory.{WindowMemory}
use Rattle.rbitcoin_mempool.specs.declared.fee_analog.memory.WindowLists.{WindowLists}
use Rattle.rbitcoin_mempool.specs.declared.fee_analog.history.AnalogHistory.{AnalogHistory}
use Rattle.rbitcoin_mempool.specs.Windows.{Valid, Windows, windows}

-- a state with the memory that is lent to it, to write or only to read
abbrev pub windows_of : AnalogHistory → WindowMemory → Windows
windows_of s m = windows s m.hurdles.now m.befores.now m.aheads.now

abbrev pub windows_seen : AnalogHistory → WindowLists → Windows
windows_seen s l = windows s l.hurdles.now l.befores.now l.aheads.now

-- the held hurdles lie within the capacity, and the memory holds it
abbrev pub ValidFor : AnalogHistory → WindowMemory → Type 0
ValidFor s m = Valid s (length m.hurdles.now) (length m.befores.now) (length m.aheads.now)

abbrev pub ValidWith : AnalogHistory → WindowLists → Type 0
ValidWith s l = Valid s (length l.hurdles.now) (length l.befores.now) (length l.aheads.now)

-- the lists are still those that the caller lent
abbrev pub SameLent : WindowMemory → WindowMemory → Type 0
SameLent m n =
    (m.hurdles.ghost_name ≡ n.hurdles.ghost_name)
    × (m.befores.ghost_name ≡ n.befores.ghost_name)
    × (m.aheads.ghost_name ≡ n.aheads.ghost_name)
