pub mod Meanings
pub mod Forms
pub mod Standing
pub mod Packs
pub mod RowLists
