pub mod Immediates
pub mod Promises
pub mod Own
