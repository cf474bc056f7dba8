-- The definitions that the contracts cite.
pub mod Bytes
pub mod Few
pub mod Format
pub mod Machine
pub mod Store
