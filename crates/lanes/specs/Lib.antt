pub mod Lane
pub mod Promises
