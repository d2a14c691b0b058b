pub mod State
pub mod Step
pub mod Answers
pub mod Promises
