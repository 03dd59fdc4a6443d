pub mod Starting
pub mod Uniting
pub mod OneSite
pub mod Repeating
pub mod Passing
pub mod Files
