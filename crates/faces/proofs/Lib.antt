pub mod Discipline
pub mod CallLaws
pub mod Results
