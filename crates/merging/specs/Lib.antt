pub mod Order
pub mod Counts
pub mod Marks
pub mod Values
