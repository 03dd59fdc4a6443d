pub mod Memory
pub mod Executing
