pub mod Counting
pub mod Calls
pub mod Preparing
pub mod Answers
pub mod Plans
