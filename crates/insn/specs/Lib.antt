pub mod Record
pub mod Widths
pub mod Refusals
pub mod Answers
pub mod Promises
