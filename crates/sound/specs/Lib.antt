pub mod Parts
pub mod Pace
