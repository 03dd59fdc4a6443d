pub mod Answers
pub mod Limit
