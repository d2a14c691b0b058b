pub mod Modified
pub mod Promises
