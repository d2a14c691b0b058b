pub mod Editions
pub mod Starred
