pub mod Flags
pub mod Brought
pub mod Skipped
