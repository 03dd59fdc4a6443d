pub mod Listed
pub mod Names
pub mod Numbers
pub mod OpenBlocks
pub mod Parts
pub mod Reading
