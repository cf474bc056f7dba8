-- Laws that the functions' proofs cite.
pub mod Verdicts
pub mod OneByOne
