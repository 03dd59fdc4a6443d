pub mod Tables
pub mod Every
pub mod Items
pub mod Answers
pub mod Known
pub mod Listing
