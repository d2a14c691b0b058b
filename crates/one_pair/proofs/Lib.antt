pub mod Rows
pub mod Guess
pub mod Tested
pub mod Promises
