pub mod Ends
pub mod Near
pub mod Promises
pub mod Sides
pub mod Tests
