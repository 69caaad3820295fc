pub mod FactLaws
pub mod Standing
pub mod Results
pub mod SlideLaws
pub mod RunLaws
