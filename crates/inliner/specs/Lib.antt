pub mod Raising
pub mod Rows
pub mod Entering
pub mod Calling
pub mod Bodies
pub mod Loading
