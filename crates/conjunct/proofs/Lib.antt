pub mod Words
pub mod Swaps
