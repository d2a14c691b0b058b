pub mod Names
pub mod Promises
pub mod Own
