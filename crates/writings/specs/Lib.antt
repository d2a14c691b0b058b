pub mod Numbers
pub mod Forms
pub mod Answers
pub mod Promises
pub mod Own
