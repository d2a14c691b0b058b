pub mod Places
pub mod Promises
pub mod Signs
pub mod Sizes
