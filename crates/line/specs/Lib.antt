pub mod Wires
pub mod Told
pub mod Quiet
