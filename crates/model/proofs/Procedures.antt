pub mod Parted
pub mod Balanced
pub mod InlinedTypes
pub mod Naming
pub mod Expanding
pub mod Programs
