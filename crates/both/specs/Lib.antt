-- Read in this order: View, Replied, Does, Quiet.
pub mod View
pub mod Replied
pub mod Does
pub mod Quiet
