pub mod Operands
pub mod Own
