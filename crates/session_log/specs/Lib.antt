pub mod Replies
pub mod Serving
pub mod Plain
pub mod Stands
pub mod Kept
pub mod Logs
pub mod Alike
