pub mod Readings
pub mod Conjuncts
pub mod FirstPass
pub mod Verdicts
pub mod Longer
