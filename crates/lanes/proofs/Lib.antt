pub mod Gathered
pub mod Lanewise
pub mod Promises
