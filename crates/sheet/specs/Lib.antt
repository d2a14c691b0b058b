pub mod Evaluation
pub mod Answers
pub mod Demand3
pub mod Promises
