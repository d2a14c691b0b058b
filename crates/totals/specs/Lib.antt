pub mod Totals
pub mod Own
pub mod Promises
