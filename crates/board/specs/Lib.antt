pub mod Effects
pub mod Commits
pub mod Resends
pub mod Delivers
pub mod Builds
pub mod Transactions
pub mod Tokens
