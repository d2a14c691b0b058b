pub mod Decimal
pub mod Signs
pub mod Writes
