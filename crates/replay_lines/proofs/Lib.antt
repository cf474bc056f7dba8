-- Laws that the functions' proofs cite.
pub mod Digits
pub mod Floats
pub mod Lines
pub mod Lists
pub mod Filling
pub mod Replaying
