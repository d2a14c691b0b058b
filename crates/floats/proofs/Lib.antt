pub mod Exact
pub mod Found
pub mod Promises
pub mod Same
