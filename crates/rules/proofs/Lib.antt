pub mod Distinct
pub mod Limiting
pub mod Stored
pub mod Choices
pub mod ByKind
pub mod Additions
pub mod Imaging
pub mod Gathering
