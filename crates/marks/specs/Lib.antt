pub mod Moved
pub mod Promises
