pub mod Forms
pub mod Grammar
pub mod Table
pub mod Sayings
pub mod Sound
