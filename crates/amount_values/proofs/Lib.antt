pub mod Amounts
pub mod Promises
