pub mod TallyLaws
pub mod PartLaws
