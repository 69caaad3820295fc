-- Read in this order: Sessions, Promises; Slides is apart.
pub mod Sessions
pub mod Promises
pub mod Slides
