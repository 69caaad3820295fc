pub mod TurnLaws
pub mod RunLaws
pub mod Results
