-- The definitions that the contracts cite.
pub mod Digest
pub mod Hex
pub mod Hurdles
pub mod Lines
pub mod Lists
pub mod Filling
pub mod Replay
pub mod Words
