pub mod Cells
pub mod Listed
pub mod Read
