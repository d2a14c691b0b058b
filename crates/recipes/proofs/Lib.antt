pub mod ByKind
pub mod Carried
pub mod Halves
pub mod Names
pub mod Places
pub mod Stepping
pub mod Writes
