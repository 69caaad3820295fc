pub mod Results
pub mod Uses
