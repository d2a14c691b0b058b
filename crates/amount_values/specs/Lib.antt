pub mod Amounts
pub mod Range
pub mod Promises
