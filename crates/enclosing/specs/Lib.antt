pub mod Blocks
pub mod Enclosing
