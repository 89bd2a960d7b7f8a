pub mod Snapshots
pub mod Trials
pub mod Runs
pub mod Backs
pub mod Looks
pub mod Opens
