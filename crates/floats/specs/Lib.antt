pub mod Floats
pub mod Found
pub mod Promises
