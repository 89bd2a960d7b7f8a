pub mod Back
pub mod Words
