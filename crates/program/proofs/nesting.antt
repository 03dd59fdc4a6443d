pub mod Words
pub mod Passing
