pub mod PartsFrom
pub mod Listed
