pub mod Writes
pub mod Offences
pub mod Apart
pub mod Back
pub mod Rebuilt
