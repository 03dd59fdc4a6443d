pub mod Shapes
pub mod WordOrder
pub mod Made
pub mod Looked
pub mod SameVariable
pub mod Lists
pub mod Atoms
pub mod FileWords
