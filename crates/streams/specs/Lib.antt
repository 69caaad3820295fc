pub mod Digits
pub mod Moves
