pub mod Labels
pub mod Page
pub mod Program
pub mod Laws
pub mod Room
pub mod Puts
