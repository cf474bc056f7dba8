-- Which end of the held hurdles is the newest. Definitions only.
use Rattle.std.specs.Prelude.{Bool, true, false}
use Rattle.rbitcoin_mempool.specs.declared.fee_analog.window.End.{End}
use Rattle.rbitcoin_mempool.specs.declared.fee_analog.window.End.TheVariants.{Newest, Oldest}

abbrev pub newest : End → Bool
newest Newest = true
newest Oldest = false
