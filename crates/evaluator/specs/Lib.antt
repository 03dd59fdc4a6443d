pub mod Sizes
pub mod Search
pub mod Answer
pub mod Engine
pub mod Lanes
