-- Read in this order: Judgement, Checks, Bounds, Promises.
pub mod Judgement
pub mod Checks
pub mod Bounds
pub mod Promises
