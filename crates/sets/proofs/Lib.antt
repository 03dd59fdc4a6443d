pub mod Overlaid
pub mod Rows
pub mod Places
pub mod Placed
pub mod Inserting
pub mod Copied
pub mod Differing
pub mod Arranging
