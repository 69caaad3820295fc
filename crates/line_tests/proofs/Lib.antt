pub mod LineLaws
pub mod CountLaws
