pub mod Listable
pub mod PairLines
pub mod Short
