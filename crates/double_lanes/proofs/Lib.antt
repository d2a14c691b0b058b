pub mod Doubles
pub mod Promises
