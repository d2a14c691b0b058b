pub mod Named
pub mod Joins
pub mod Promises
