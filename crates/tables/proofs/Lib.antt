pub mod TableLaws
pub mod OptionLaws
pub mod PlacesLaws
pub mod AllRows
pub mod NoticeLaws
pub mod CallLaws
pub mod LentLaws
pub mod RowsLaws
