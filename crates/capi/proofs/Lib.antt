pub mod Leaving
pub mod Apart
