-- Read in this order: View, Told, Does.
pub mod View
pub mod Told
pub mod Does
