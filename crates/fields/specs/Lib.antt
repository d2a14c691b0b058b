pub mod Halfwords
pub mod Registers
pub mod Answers
pub mod Promises
