pub mod Machines
pub mod Calculations
pub mod Steps
pub mod Examples
