pub mod Ends
pub mod Around
pub mod Leaving
pub mod Walked
pub mod WalkingOut
