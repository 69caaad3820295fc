pub mod CommonLaws
pub mod AlikeLaws
pub mod FetchLaws
pub mod CompareLaws
pub mod MoveLaws
pub mod JudgementLaws
pub mod CheckLaws
pub mod Results
