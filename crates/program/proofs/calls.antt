pub mod Beginnings
pub mod Arguments
