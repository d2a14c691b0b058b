pub mod Immediates
pub mod Promises
