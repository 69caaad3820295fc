pub mod NumberLaws
pub mod DoesLaws
pub mod TickLaws
pub mod ReplyLaws
pub mod FollowLaws
pub mod Results
