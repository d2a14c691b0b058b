pub mod Lists
pub mod Answers
pub mod Promises
pub mod Own
