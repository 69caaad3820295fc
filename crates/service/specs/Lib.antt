pub mod Candidates
pub mod Gives
pub mod Ready
pub mod Quiet
