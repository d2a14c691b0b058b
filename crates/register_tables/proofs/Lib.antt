pub mod Known
pub mod Rows
