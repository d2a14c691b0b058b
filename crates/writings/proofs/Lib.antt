pub mod Only
pub mod Pairs
pub mod Promises
pub mod Tests
