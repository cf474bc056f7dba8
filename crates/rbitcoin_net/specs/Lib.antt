-- The definitions that the contracts cite.
pub mod Map
pub mod History
pub mod Lent
pub mod Search
pub mod Readers
pub mod Hashes
pub mod Cuts
pub mod Evictions
pub mod Rooms
pub mod Openings
pub mod Inserts
pub mod Rates
pub mod Memory
pub mod Sums
pub mod Runs
