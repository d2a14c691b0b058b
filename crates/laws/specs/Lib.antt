pub mod Answer
pub mod AnswerAt
pub mod Choice
pub mod Search
pub mod Signed
pub mod Placed
pub mod Promises
