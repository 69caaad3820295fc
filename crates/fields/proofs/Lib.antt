pub mod Parts
pub mod NumberLaws
pub mod FieldLaws
pub mod MarkLaws
pub mod FormatLaws
pub mod WindowLaws
pub mod PartLaws
pub mod DraftLaws
