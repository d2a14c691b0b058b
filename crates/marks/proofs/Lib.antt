pub mod Halves
pub mod Promises
pub mod Quiet
pub mod Search
