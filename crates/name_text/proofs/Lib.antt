pub mod Spaces
pub mod Endings
