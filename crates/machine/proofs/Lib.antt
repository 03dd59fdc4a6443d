pub mod Stores
pub mod Clearing
pub mod Numbers
pub mod Records
pub mod Executions
