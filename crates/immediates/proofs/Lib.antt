pub mod Expansions
pub mod Promises
pub mod Defined
