pub mod One
pub mod Own
pub mod Promises
