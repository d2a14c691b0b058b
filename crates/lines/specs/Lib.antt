pub mod Listing
pub mod Own
