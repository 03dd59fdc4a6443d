pub mod Naming
pub mod Bodies
