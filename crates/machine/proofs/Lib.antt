pub mod Promises
pub mod Unmarked
