pub mod Evaluating
pub mod Promises
