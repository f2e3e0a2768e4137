pub mod Folds
pub mod Values
