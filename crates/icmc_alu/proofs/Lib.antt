pub mod FlagBits
pub mod FlagLaws
mod Meets
