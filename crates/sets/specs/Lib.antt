pub mod Region
pub mod Minus
