pub mod Spelling
pub mod Calls
pub mod Promises
pub mod Writable
