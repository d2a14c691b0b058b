pub mod Actions
pub mod Promises
