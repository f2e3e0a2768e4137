pub mod BoardSets
pub mod Objects
pub mod Durable
pub mod Builds
