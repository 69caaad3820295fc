pub mod CauseLaws
pub mod NoticeLaws
pub mod RefusalLaws
