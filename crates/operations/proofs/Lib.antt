pub mod Halves
pub mod Promises
