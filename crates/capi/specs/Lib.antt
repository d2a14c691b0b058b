pub mod Results
pub mod Promises
