-- Laws that the functions' proofs cite, and the format's own laws.
pub mod Fields
pub mod Inputs
pub mod Keeps
pub mod Lines
pub mod Padded
pub mod Sound
