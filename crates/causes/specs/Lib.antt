pub mod Causes
pub mod Notices
pub mod Refusals
