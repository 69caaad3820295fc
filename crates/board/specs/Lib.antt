-- Read in this order: Numbers, Ticks, Calls, Does, Sequence, Promises. Stretch is of the code alone.
pub mod Numbers
pub mod Ticks
pub mod Stretch
pub mod Calls
pub mod Does
pub mod Sequence
pub mod Promises
