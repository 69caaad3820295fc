-- Read in this order: Limits, Model, Admission, Service, SoundState, SoundTest, Calls, Histories, Runs, Promises, Examples. Words, packets, notices and the line are those of crate `rules`.
pub mod Limits
pub mod Model
pub mod Admission
pub mod Service
pub mod SoundState
pub mod SoundTest
pub mod Calls
pub mod Histories
pub mod Runs
pub mod Promises
pub mod Examples
