pub mod NodeKinds
pub mod Numbering
pub mod Nodes
pub mod Stacks
pub mod Orders
pub mod Counting
pub mod Passes
pub mod Table
