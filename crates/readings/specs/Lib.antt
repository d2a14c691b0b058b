pub mod Operands
pub mod Promises
