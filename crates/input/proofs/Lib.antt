pub mod Pass
pub mod Search
pub mod Fields
pub mod Narrow
mod Examples
