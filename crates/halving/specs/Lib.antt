pub mod Half
pub mod Promises
