pub mod Names
pub mod Turns
pub mod Replies
pub mod Histories
pub mod Results
