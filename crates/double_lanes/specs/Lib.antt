pub mod Double
pub mod Halves
pub mod Promises
