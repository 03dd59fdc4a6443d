pub mod Answers
pub mod Adding
pub mod Changing
