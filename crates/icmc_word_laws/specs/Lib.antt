pub mod Assigned
pub mod Spare
pub mod Laws
