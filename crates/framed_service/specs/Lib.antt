pub mod Ready
pub mod Quiet
