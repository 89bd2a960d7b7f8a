pub mod Assembly
pub mod Scores
