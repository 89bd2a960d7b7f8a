pub mod Flags
pub mod Whole
pub mod Compared
pub mod Logic
pub mod Shifts
pub mod Conditions
pub mod Laws
