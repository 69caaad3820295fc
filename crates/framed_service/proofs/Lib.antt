pub mod ChoiceLaws
pub mod ReadyLaws
pub mod TickLaws
pub mod QuietLaws
pub mod QuietCases
