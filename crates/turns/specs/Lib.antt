-- Read in this order: Turns, Runs, Promises. Words is for what the programs over it tell.
pub mod Turns
pub mod Runs
pub mod Promises
pub mod Words
