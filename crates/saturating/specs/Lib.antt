pub mod Promises
pub mod Range
