pub mod Classes
pub mod Names
pub mod Symbols
pub mod Lines
pub mod Labels
