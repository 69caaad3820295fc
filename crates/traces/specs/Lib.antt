-- Read in this order: Kinds, Trace.
pub mod Kinds
pub mod Trace
