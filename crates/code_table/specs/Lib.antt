pub mod Statements
pub mod Stacks
pub mod Table
