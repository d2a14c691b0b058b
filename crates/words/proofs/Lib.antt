pub mod Floats
pub mod Promises
pub mod Readings
