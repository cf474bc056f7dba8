-- The definitions that the contracts cite.
pub mod Fields
pub mod Marks
pub mod Counts
pub mod Blocks
