pub mod Word
pub mod Value
pub mod Behind
