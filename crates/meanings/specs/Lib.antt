pub mod Meaning
pub mod Answers
pub mod Promises
pub mod Own
