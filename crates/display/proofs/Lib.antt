pub mod Short
pub mod Registers
