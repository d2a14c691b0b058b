pub mod Promises
pub mod Shifts
