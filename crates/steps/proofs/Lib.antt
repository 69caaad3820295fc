pub mod PassLaws
pub mod StepLaws
pub mod OutcomeLaws
pub mod CallLaws
pub mod FactLaws
pub mod MalformedLaws
pub mod LentLaws
