pub mod Operations
pub mod Promises
