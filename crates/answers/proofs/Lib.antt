pub mod AnswerLaws
pub mod Laws
pub mod WriteLaws
