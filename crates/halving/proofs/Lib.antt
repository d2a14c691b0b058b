pub mod Halving
pub mod Promises
