pub mod ReadLaws
pub mod LogLaws
pub mod BadLaws
