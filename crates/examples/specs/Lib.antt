pub mod Scripts
pub mod Examples
