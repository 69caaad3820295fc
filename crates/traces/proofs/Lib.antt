pub mod LinkLaws
pub mod TraceLaws
pub mod Laws
