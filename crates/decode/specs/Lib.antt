pub mod Reading
pub mod Editions
pub mod Starred
