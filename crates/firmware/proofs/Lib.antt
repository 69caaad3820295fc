pub mod AskedLaws
pub mod FreeLaws
pub mod LaidLaws
pub mod Results
