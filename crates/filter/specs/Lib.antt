pub mod Decoding
pub mod Verdict
