pub mod Types
pub mod Whole
pub mod Step
pub mod Words
