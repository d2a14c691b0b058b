pub mod Shift
pub mod Modimm
