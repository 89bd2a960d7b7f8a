pub mod Tables
pub mod Conditions
pub mod Sizes
pub mod Decoded
pub mod Encoded
