pub mod Promises
pub mod Parts
