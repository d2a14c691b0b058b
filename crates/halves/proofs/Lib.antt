pub mod Places
pub mod Filled
pub mod Families
pub mod Promises
