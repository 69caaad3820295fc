pub mod LineLaws
pub mod QuietLaws
