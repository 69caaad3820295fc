pub mod ChoiceLaws
pub mod LeadLaws
pub mod EarlyLaws
pub mod TickLaws
pub mod ReadyLaws
pub mod QuietLaws
pub mod QuietCases
