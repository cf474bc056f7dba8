-- Laws that the functions' proofs cite, and that no target is refused.
pub mod Answered
pub mod Writing
