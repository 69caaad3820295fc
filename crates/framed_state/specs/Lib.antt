-- Read in this order: View, Said, Does.
pub mod View
pub mod Said
pub mod Does
