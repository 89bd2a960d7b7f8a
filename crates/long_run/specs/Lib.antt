pub mod Rounds
pub mod LongRuns
