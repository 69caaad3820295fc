-- Read in this order: Steps, Tie, Wants.
pub mod Steps
pub mod Tie
pub mod Wants
