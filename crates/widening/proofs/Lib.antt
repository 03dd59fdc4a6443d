pub mod NewFiles
pub mod Answers
