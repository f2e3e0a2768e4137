pub mod Classes
pub mod Lines
pub mod Verdicts
pub mod Reports
