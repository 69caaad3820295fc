pub mod PassLaws
pub mod VerdictLaws
pub mod ActLaws
