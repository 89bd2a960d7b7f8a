mod Undoing
pub mod Turns
mod Simulates
mod LogLaws
mod Logs
mod Endings
pub mod Keeps
mod KeptLogs
pub mod Stood
mod Agreeing
