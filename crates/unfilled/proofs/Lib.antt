pub mod Places
pub mod Finding
pub mod Promises
