pub mod Deriving
pub mod Joining
