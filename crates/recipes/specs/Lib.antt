pub mod Naming
pub mod Pairs
