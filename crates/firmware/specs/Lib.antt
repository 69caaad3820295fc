-- Read in this order: Questions, Promises. Laid is of the code alone.
pub mod Questions
pub mod Laid
pub mod Promises
