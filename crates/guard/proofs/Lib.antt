pub mod Apart
pub mod Behind
