pub mod Lines
pub mod Counts
