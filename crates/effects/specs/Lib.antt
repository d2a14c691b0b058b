pub mod File
pub mod Effect
pub mod Halves
pub mod Promises
