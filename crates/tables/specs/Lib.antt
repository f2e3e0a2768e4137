pub mod Locks
pub mod Places
pub mod Transactions
pub mod Changes
pub mod Fresh
pub mod Outcomes
