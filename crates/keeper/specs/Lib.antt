pub mod Logs
pub mod Tables
pub mod Areas
