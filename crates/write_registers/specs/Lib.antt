pub mod Same3
pub mod Diff
