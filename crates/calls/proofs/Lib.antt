pub mod VerdictLaws
pub mod ActLaws
