pub mod Numbers
pub mod Kinds
pub mod Formats
pub mod Laws
