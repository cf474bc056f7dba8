-- The laws by which functions are proved with no answer, in lists with short names. Assumes nothing.
use lib.Seq.{length-take-le}
use Rattle.std.proofs.lemmas.Bool.Decides.{nat_tests}
use Rattle.rbitcoin_mempool.proofs.Refusals as mempool
use Rattle.slices.proofs.Bisect.{lower_bound_is}
use Rattle.rbitcoin_net.proofs.CutSound.{truncated}
use Rattle.rbitcoin_net.proofs.Refusals.{windows_taken, rows-lent, truncate-fits, entries_fit, recent-fits, rates-fit, within}
use Rattle.rbitcoin_net.proofs.Rating.{slots-done}
use Rattle.rbitcoin_net.proofs.Readers.{rate_is}
use Rattle.rbitcoin_net.proofs.Search.{place_found, is-at-true, look-up-held, look-up-nothing}
use Rattle.rbitcoin_net.proofs.Hashes.{hash_found, remove_is}

-- a refusal by its tests, and windows that are not refused
pub ruleset refusal_steps = mempool.refusal_steps

pub ruleset window_steps = (refusal_steps, windows_taken)

-- a rank among the held rows
pub ruleset ranking = nat_tests

-- a stored rate, as it is read
pub ruleset reading = rate_is

-- the place of a height, and what stands there
pub ruleset looking = (place_found, is-at-true, look-up-held, look-up-nothing)

-- rows and hashes cut at their places
pub ruleset cutting = (truncated, lower_bound_is)

-- a hash that is there goes
pub ruleset removing = (nat_tests, is-at-true, hash_found, remove_is)

-- a hash is put at its place
pub ruleset noting = (nat_tests, is-at-true)

-- what a call that is not refused has
pub ruleset fitting = (rows-lent, truncate-fits, entries_fit, recent-fits, rates-fit, within, length-take-le)

-- the places of a list filled
pub ruleset slotting = slots-done
