pub mod Verdicts
pub mod Writes
