pub mod Views
pub mod Rules
