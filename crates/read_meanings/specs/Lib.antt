pub mod Constants
pub mod Promises
