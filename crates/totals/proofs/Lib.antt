pub mod Counts
pub mod Sorts
pub mod Short
pub mod Promises
