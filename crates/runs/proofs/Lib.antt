pub mod AnyRuns
pub mod Control
pub mod Copies
pub mod Marks
pub mod Promises
pub mod Runs
