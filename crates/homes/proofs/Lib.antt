pub mod Cells
pub mod Homes
pub mod Places
