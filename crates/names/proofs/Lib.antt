pub mod Known
pub mod Promises
pub mod Spellings
