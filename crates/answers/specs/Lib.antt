pub mod Kinds
pub mod Answers
