pub mod Members
pub mod Rows
pub mod Within
pub mod Closing
