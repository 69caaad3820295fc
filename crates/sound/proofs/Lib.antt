pub mod PartLaws
pub mod PaceLaws
