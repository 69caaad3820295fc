-- Read in this order: Log, Bad.
pub mod Log
pub mod Bad
