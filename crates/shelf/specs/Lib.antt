pub mod Slots
pub mod SliceVecs
