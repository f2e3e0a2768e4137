pub mod Firsts
pub mod LockSteps
pub mod Owners
pub mod Serials
