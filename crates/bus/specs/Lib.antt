pub mod Records
pub mod Letters
pub mod Received
