pub mod Effects
pub mod Held
pub mod Promises
